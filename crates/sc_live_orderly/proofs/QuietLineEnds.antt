-- A line of many deliveries that has room for what is owed ends quiet.
use Rattle.std.proofs.Common.{◌≡◌, ℕ, zero, suc, ◌+◌, ◌<◌, ◌≤◌, List, [], ◌∷◌, ◌++◌, Bool, true, false, true≢false, cond, eqb, ◌||◌, not, find, refl, sym, ◌∙◌, ap, subst, arith, Option, None, Some}
use Rattle.std.specs.Prelude.{slice_get, is_none}
use Rattle.std.specs.List.{flat_map}
use Rattle.std.proofs.lemmas.Bool.{ne_eqb}
use Rattle.std.proofs.lemmas.List.Sums.{fold-append}
use Rattle.sc_base.specs.Definitions.{Each}
use Rattle.sc_base.proofs.Lemmas.{and_then-some, map-some}
use Rattle.sc_actor.specs.declared.rows.Row.{Row}
use Rattle.sc_actor.specs.declared.rows.Event.{Event}
use Rattle.sc_actor.specs.declared.rows.Event.TheVariants.{Deliver}
use Rattle.sc_actor.specs.declared.schedules.Line.{Line}
use Rattle.sc_actor.specs.declared.schedules.Line.TheVariants.{Go as GoLine, Deliver as DeliverLine, Settle, Free}
use Rattle.sc_actor.specs.Definitions.{mails, numbered, is_delivery, System, acts, row_of, waiting, kth, are_apart, Task, Once, Settles, Frees, Storms, WalkPlace, Allows, MayAdd, IsLawful, onward, is_over, is_quiet, cuts, skips, after_row, place_after, rest_of_all, tasks_of, delivery, unsettled}
use Rattle.sc_actor.proofs.Lemmas.{find-who, waiting_any, lawful-last, place_after-rows}
use Rattle.sc_live_orderly.specs.OrderlyDefinitions.{IsPlainLine, is_born, deliveries, Owing, Lowers, HasRoom, owed, owed_at_birth}
use Rattle.sc_live_orderly.proofs.RowsOfSchedules.{Each-append, by_rows}
use Rattle.sc_live_orderly.proofs.RemainingMail.{tidy, may-born}
use Rattle.sc_live_orderly.proofs.PotentialBounds.{delivered, count_push, deliveries_are_owed}

Each-at : {X : Type 0} (P : X → Type 0) (xs : List X) (place : ℕ) (x : X) → Each P xs → slice_get xs place ≡ Some x → P x
Each-at P [] place x all e = cc
Each-at P (y ∷ ys) zero x all e = let same : y ≡ x = cc in subst P same all.0
Each-at P (y ∷ ys) (suc place) x all e = Each-at P ys place x all.1 e

-- where some were made of those that are owed, a task of many deliveries has room for the others
abbrev HasRoomLeft : {O : Type 0} → ℕ → ℕ → Task O → Type 0
HasRoomLeft total made (Settles left) = total ≤ left + made
HasRoomLeft total made (Frees left) = total ≤ left + made
HasRoomLeft total made (Once line) = Unit {0}
HasRoomLeft total made (Storms words) = Unit {0}

line_room : {O : Type 0} (words : ℕ → ℕ → ℕ × ℕ) (total : ℕ) (line : Line O) → IsPlainLine line → HasRoom total line → Each (HasRoomLeft total 0) (tasks_of words line)
line_room words total (GoLine who) p room = (tt, tt)
line_room words total (Settle most) p room = (omega arith, tt)
line_room words total (Free most workers) p room = (omega arith, tt)
line_room words total (DeliverLine who k) p room = (tt, tt)
line_room words total _ p room = absurd p

lines_room : {O : Type 0} (words : ℕ → ℕ → ℕ × ℕ) (total : ℕ) (lines : List (Line O)) → Each IsPlainLine lines → Each (HasRoom total) lines → Each (HasRoomLeft total 0) (flat_map (tasks_of words) lines)
lines_room words total [] p room = tt
lines_room words total (line ∷ lines) p room = Each-append (HasRoomLeft total 0) (tasks_of words line) (flat_map (tasks_of words) lines) (line_room words total line p.0 room.0) (lines_room words total lines p.1 room.1)

more_made : {O : Type 0} (total made more : ℕ) (tasks : List (Task O)) → made ≤ more → Each (HasRoomLeft total made) tasks → Each (HasRoomLeft total more) tasks
more_made total made more [] le all = tt
more_made total made more (Settles left ∷ tasks) le all = (let a = all.0 in omega (arith, a), more_made total made more tasks le all.1)
more_made total made more (Frees left ∷ tasks) le all = (let a = all.0 in omega (arith, a), more_made total made more tasks le all.1)
more_made total made more (Once line ∷ tasks) le all = (tt, more_made total made more tasks le all.1)
more_made total made more (Storms words ∷ tasks) le all = (tt, more_made total made more tasks le all.1)

module _ {A M O : Type 0} (s : System A M O) where
  pub acts-event : (rows : List (Row M O)) (who : ℕ) (event : Event O) (row : Row M O) → acts s rows who event ≡ Some row → event ≡ row.event
  acts-event rows who event row e =
      let m = map-some (λ seat. row_of s.table seat rows event) (find (λ seat. eqb seat.who who) s.births) row e in
      ap (λ (r : Row M O). r.event) m.2

  pub acts-who : (rows : List (Row M O)) (who : ℕ) (event : Event O) (row : Row M O) → acts s rows who event ≡ Some row → row.who ≡ who
  acts-who rows who event row e =
      let m = map-some (λ seat. row_of s.table seat rows event) (find (λ seat. eqb seat.who who) s.births) row e in
      sym (ap (λ (r : Row M O). r.who) m.2) ∙ find-who s.births who m.0 m.1

  pub delivery-event : (rows : List (Row M O)) (left : ℕ) (row : Row M O) → Allows s rows (Settles left) row → is_delivery row.event ≡ true
  delivery-event rows left row e =
      let q = and_then-some (delivery s rows) (kth (waiting s rows None) 1) row e in
      let r = and_then-some (λ m. acts s rows (s.receiver m) (Deliver q.0)) (numbered (mails rows) q.0) row q.2 in
      sym (ap (λ (e' : Event O). is_delivery e') (acts-event rows (s.receiver r.0) (Deliver q.0) row r.2))

  pub free-event : (rows : List (Row M O)) (left : ℕ) (row : Row M O) → Allows s rows (Frees left) row → is_delivery row.event ≡ true
  free-event rows left row e =
      let q = and_then-some (λ mail. acts s rows row.who (Deliver mail)) (kth (waiting s rows (Some row.who)) 1) row e in
      sym (ap (λ (e' : Event O). is_delivery e') (acts-event rows row.who (Deliver q.0) row q.2))

  pub deliver-event : (rows : List (Row M O)) (who k : ℕ) (row : Row M O) → Allows s rows (Once (DeliverLine who k)) row → is_delivery row.event ≡ true
  deliver-event rows who k row e =
      let q = and_then-some (λ mail. acts s rows who (Deliver mail)) (kth (waiting s rows (Some who)) k) row e in
      sym (ap (λ (e' : Event O). is_delivery e') (acts-event rows who (Deliver q.0) row q.2))

  made_by : (total : ℕ) (rows : List (Row M O)) (row : Row M O) (tasks : List (Task O)) → MayAdd s rows tasks row → Each (HasRoomLeft total (deliveries rows)) tasks → Each (HasRoomLeft total (deliveries (rows ++ row ∷ []))) (rest_of_all tasks)
  made_by total rows row [] e all = absurd e
  made_by total rows row (Settles left ∷ tasks) e all =
      let count = count_push (λ (r : Row M O). is_delivery r.event) rows row true (delivery-event rows left row e) in
      let a = all.0 in
      (omega (arith, count, a), more_made total (deliveries rows) (deliveries (rows ++ row ∷ [])) tasks (omega (arith, count)) all.1)
  made_by total rows row (Frees left ∷ tasks) e all =
      let count = count_push (λ (r : Row M O). is_delivery r.event) rows row true (free-event rows left row e) in
      let a = all.0 in
      (omega (arith, count, a), more_made total (deliveries rows) (deliveries (rows ++ row ∷ [])) tasks (omega (arith, count)) all.1)
  made_by total rows row (Once line ∷ tasks) e all =
      let count = count_push (λ (r : Row M O). is_delivery r.event) rows row (is_delivery row.event) refl in
      more_made total (deliveries rows) (deliveries (rows ++ row ∷ [])) tasks (omega (arith, count)) all.1
  made_by total rows row (Storms words ∷ tasks) e all =
      let count = count_push (λ (r : Row M O). is_delivery r.event) rows row (is_delivery row.event) refl in
      more_made total (deliveries rows) (deliveries (rows ++ row ∷ [])) tasks (omega (arith, count)) all.1

  abbrev IsRoomy : ℕ → List (Row M O) → WalkPlace M O → Type 0
  IsRoomy total rows place = Each (HasRoomLeft total (deliveries rows)) place.tasks × (place.unsettled ≡ false)

  module _ (total : ℕ) (rows : List (Row M O)) (owes : is_quiet s rows ≡ false → deliveries rows < total) where
    no_cut : (left : ℕ) (b : Bool) → is_quiet s rows ≡ b → total ≤ left + deliveries rows → (eqb left 0 || b) ≡ true → not b ≡ false
    no_cut left true q room over = refl
    no_cut zero false q room over = let more = owes q in absurd (omega (arith, more))
    no_cut (suc left) false q room over = absurd (true≢false (sym over ∙ ap (λ b. b || false) (ne_eqb (suc left) 0 (λ z. absurd (omega (arith, z))))))

    not_cut : (task : Task O) → HasRoomLeft total (deliveries rows) task → is_over s rows task ≡ true → cuts s rows task ≡ false
    not_cut (Once line) room over = refl
    not_cut (Settles left) room over = no_cut left (is_quiet s rows) refl room over
    not_cut (Frees left) room over = no_cut left (is_quiet s rows) refl room over
    not_cut (Storms words) room over = refl

    onward_roomy : (tasks : List (Task O)) (skipped : ℕ) → Each (HasRoomLeft total (deliveries rows)) tasks → IsRoomy total rows (onward s rows tasks skipped false)
    onward_roomy [] skipped all = (tt, refl)
    onward_roomy (task ∷ tasks) skipped all = by (is_over s rows task) refl (onward_roomy tasks (skipped + skips task) all.1)
      where
        by : (b : Bool) → is_over s rows task ≡ b → IsRoomy total rows (onward s rows tasks (skipped + skips task) false) →
            IsRoomy total rows (cond b (onward s rows tasks (skipped + skips task) (false || cuts s rows task)) (record { tasks = task ∷ tasks; rows = rows; skipped = skipped; unsettled = false }))
        by true over more = subst (λ c. IsRoomy total rows (onward s rows tasks (skipped + skips task) c)) (sym (not_cut task all.0 over)) more
        by false open_ more = (all, refl)

  module _ (owing : Owing A M) (lines : List (Line O)) (plain : Each IsPlainLine lines) (bounded : (rows : List (Row M O)) → IsLawful s lines rows → deliveries rows + owed s owing rows ≤ owed_at_birth s owing)
      (owes : (rows : List (Row M O)) → IsLawful s lines rows → Each (λ mail. 1 ≤ owing.mail mail) (mails rows)) where
    -- where something is pending, something is owed
    pub pending_owes : (rows : List (Row M O)) → IsLawful s lines rows → is_quiet s rows ≡ false → deliveries rows < owed_at_birth s owing
    pending_owes rows lawful q = by (kth (waiting s rows None) 1) refl
      where
        by : (o : Option ℕ) → kth (waiting s rows None) 1 ≡ o → deliveries rows < owed_at_birth s owing
        by None e = absurd (true≢false (sym (ap is_none e) ∙ q))
        by (Some zero) e = let u = waiting_any s rows 1 zero e in (let bad : None ≡ Some u.0 = u.1.sent in cc)
        by (Some (suc place)) e =
            let u = waiting_any s rows 1 (suc place) e in
            let born : is_born s (s.receiver u.0) ≡ true = sym (may-born s rows (s.receiver u.0) (tidy s lines rows plain lawful)) ∙ u.1.may in
            let took = delivered s owing.mail rows (suc place) u.0 born u.1 in
            let one : 1 ≤ owing.mail u.0 = Each-at (λ mail. 1 ≤ owing.mail mail) (mails rows) place u.0 (owes rows lawful) u.1.sent in
            let all = bounded rows lawful in
            omega (arith, took, one, all)

    module _ (room : Each (HasRoom (owed_at_birth s owing)) lines) where
      roomy_row : (rows : List (Row M O)) (row : Row M O) → IsLawful s lines (rows ++ row ∷ []) → IsRoomy (owed_at_birth s owing) rows (place_after s lines rows) → IsRoomy (owed_at_birth s owing) (rows ++ row ∷ []) (place_after s lines (rows ++ row ∷ []))
      roomy_row rows row lawful now =
          let total = owed_at_birth s owing in
          let place = place_after s lines rows in
          let rest = made_by total rows row place.tasks (lawful-last s lines rows row lawful) now.0 in
          let next = onward_roomy total (rows ++ row ∷ []) (pending_owes (rows ++ row ∷ []) lawful) (rest_of_all place.tasks) place.skipped rest in
          let step : place_after s lines (rows ++ row ∷ []) ≡ after_row s place row = fold-append (after_row s) _ rows (row ∷ []) in
          let there : place.rows ≡ rows = place_after-rows s lines rows in
          let same : after_row s place row ≡ onward s (rows ++ row ∷ []) (rest_of_all place.tasks) place.skipped false =
          ap (λ xs. onward s (xs ++ row ∷ []) (rest_of_all place.tasks) place.skipped place.unsettled) there ∙ ap (λ c. onward s (rows ++ row ∷ []) (rest_of_all place.tasks) place.skipped c) now.1 in
          subst (λ p. IsRoomy total (rows ++ row ∷ []) p) (sym (step ∙ same)) next

      -- no line of a lawful journal is cut off, where what is owed bounds the deliveries
      pub never_cut_by : (journal : List (Row M O)) → IsLawful s lines journal → unsettled s lines journal ≡ false
      never_cut_by journal lawful =
          let total = owed_at_birth s owing in
          let none : IsRoomy total [] (place_after s lines []) = onward_roomy total [] (pending_owes [] tt) (flat_map (tasks_of s.words) lines) 0 (lines_room s.words total lines plain room) in
          (by_rows s lines (λ rows. IsRoomy total rows (place_after s lines rows)) none roomy_row journal lawful).1

  -- no line of a lawful journal is cut off, where each row pays
  pub never_cut : are_apart s.births ≡ true → (owing : Owing A M) (lines : List (Line O)) → Each IsPlainLine lines → Lowers s owing lines → Each (HasRoom (owed_at_birth s owing)) lines → (journal : List (Row M O)) → IsLawful s lines journal → unsettled s lines journal ≡ false
  never_cut apart owing lines plain lowers room journal lawful = never_cut_by owing lines plain (deliveries_are_owed s apart owing lines plain lowers) (λ rows l. lowers.mail rows l) room journal lawful
