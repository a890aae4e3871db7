-- How many mails and rows a journal in order has.
use Rattle.std.proofs.Common.{◌≡◌, ℕ, ◌+◌, ◌≤◌, List, [], ◌∷◌, ◌++◌, length, length-append, Bool, true, false, cond, eqb, eq-eqb, ◌&&◌, ◌||◌, find, refl, sym, ◌∙◌, ap, subst, arith, Some, sum_by}
use Rattle.std.specs.List.{filter, count_by}
use Rattle.std.proofs.Math.Bool.{or-false}
use Rattle.std.proofs.lemmas.Bool.{and_left}
use Rattle.std.proofs.lemmas.List.Folds.{list_any-append}
use Rattle.std.proofs.lemmas.List.Sums.{sum_by-cons, count_by-le-length}
use Rattle.sc_base.specs.Definitions.{Each}
use Rattle.sc_actor.specs.declared.actors.Seat.{Seat}
use Rattle.sc_actor.specs.declared.rows.Row.{Row}
use Rattle.sc_actor.specs.declared.rows.Event.{Event}
use Rattle.sc_actor.specs.declared.rows.Event.TheVariants.{Deliver, Tick, Go, Told, Crash, Drop, Again}
use Rattle.sc_actor.specs.declared.schedules.Line.{Line}
use Rattle.sc_actor.specs.Definitions.{mails, copies, counts_at, is_delivery, System, row_of, is_go, has_started, are_apart, IsLawful}
use Rattle.sc_actor.proofs.Lemmas.{waiting_one, mails-snoc}
use Rattle.sc_live_orderly.specs.OrderlyDefinitions.{IsPlainLine, IsInOrder, IsCalmEvent, IsCalmRow, mail_with, is_born, is_told, deliveries, goes, orders, AreInTime, Owing, SendsToActors, under_way, owed}
use Rattle.sc_live_orderly.proofs.RowsOfSchedules.{orderly_is_calm, orderly, by_rows}
use Rattle.sc_live_orderly.proofs.RowsInTime.{by_time, last_in_time}
use Rattle.sc_live_orderly.proofs.MailCopies.{count_owes}
use Rattle.sc_live_orderly.proofs.RemainingMail.{after-row, is_born-from}
use Rattle.sc_live_orderly.proofs.SeatSums.{one_changes}
use Rattle.sc_live_orderly.proofs.PotentialBounds.{delivered, count_push}

ones_length : {X : Type 0} (xs : List X) → sum_by (λ (x : X). 1) xs ≡ length xs
ones_length [] = refl
ones_length {X} (x ∷ xs) = let rec = ones_length xs in let s = sum_by-cons (λ (y : X). 1) x xs in omega (arith, rec, s)

all_pass : {X : Type 0} (test : X → Bool) (xs : List X) → Each (λ x. test x ≡ true) xs → filter test xs ≡ xs
all_pass test [] all = refl
all_pass test (x ∷ xs) all = ap (λ b. cond b (x ∷ filter test xs) (filter test xs)) all.0 ∙ ap (λ t. x ∷ t) (all_pass test xs all.1)

pub Each-behind : {X : Type 0} (P : X → Type 0) (xs ys : List X) → Each P (xs ++ ys) → Each P ys
Each-behind P [] ys e = e
Each-behind P (x ∷ xs) ys e = Each-behind P xs ys e.1

module _ {A M O : Type 0} (s : System A M O) (apart : are_apart s.births ≡ true) (lines : List (Line O)) (plain : Each IsPlainLine lines) where
  -- ---- mails

  sent-row : (rows : List (Row M O)) (row : Row M O) → Each (λ mail. is_born s (s.receiver mail) ≡ true) (mails (rows ++ row ∷ [])) →
      length (under_way s (rows ++ row ∷ [])) ≡ length (mail_with (λ mail. is_born s (s.receiver mail)) (mails rows) (counts_at (copies rows) row.event)) + length row.sent
  sent-row rows row all =
      let test : M → Bool = λ mail. is_born s (s.receiver mail) in
      let own : Each (λ mail. test mail ≡ true) row.sent = Each-behind (λ mail. test mail ≡ true) (mails rows) row.sent (subst (λ xs. Each (λ mail. test mail ≡ true) xs) (mails-snoc rows row) all) in
      let left = mail_with test (mails rows) (counts_at (copies rows) row.event) in
      ap length (after-row s test rows row) ∙ (length-append left (filter test row.sent) ∙ ap (λ xs. length left + length xs) (all_pass test row.sent own))

  mails-row : (rows : List (Row M O)) (seat : Seat A) (event : Event O) → find (λ other. eqb other.who seat.who) s.births ≡ Some seat → IsInOrder s rows seat.who event →
      length (under_way s (rows ++ row_of s.table seat rows event ∷ [])) ≡ length (mail_with (λ mail. is_born s (s.receiver mail)) (mails rows) (counts_at (copies rows) event)) + length (row_of s.table seat rows event).sent →
      length (mails rows) ≤ deliveries rows + length (under_way s rows) →
      length (mails (rows ++ row_of s.table seat rows event ∷ [])) ≤ deliveries (rows ++ row_of s.table seat rows event ∷ []) + length (under_way s (rows ++ row_of s.table seat rows event ∷ []))
  mails-row rows seat (Deliver number) born fine after le =
      let row = row_of s.table seat rows (Deliver number) in
      let w = waiting_one s rows seat.who 1 number fine in
      let took = delivered s (λ (m : M). 1) rows number w.0 (ap (is_born s) w.2 ∙ is_born-from s seat.who seat born) w.1 in
      let left = mail_with (λ mail. is_born s (s.receiver mail)) (mails rows) (counts_at {O = O} (copies rows) (Deliver number)) in
      let a = ones_length (under_way s rows) in
      let b = ones_length left in
      let all = ap length (mails-snoc rows row) ∙ length-append (mails rows) row.sent in
      let count = count_push (λ (r : Row M O). is_delivery r.event) rows row true refl in
      omega (arith, took, a, b, all, count, after, le)
  mails-row rows seat Go born fine after le =
      let row = row_of s.table seat rows Go in
      let all = ap length (mails-snoc rows row) ∙ length-append (mails rows) row.sent in
      let count = count_push (λ (r : Row M O). is_delivery r.event) rows row false refl in
      omega (arith, all, count, after, le)
  mails-row rows seat Tick born fine after le = absurd fine
  mails-row rows seat _ born fine after le = absurd fine

  -- each mail was delivered or is under way
  mails_under_way : SendsToActors s lines → (journal : List (Row M O)) → IsLawful s lines journal → length (mails journal) ≤ deliveries journal + length (under_way s journal)
  mails_under_way to_actors journal lawful =
      by_rows s lines (λ rows. length (mails rows) ≤ deliveries rows + length (under_way s rows)) (omega arith)
      (λ rows row l le.
      let o = orderly s lines rows row plain l in
      let after = sent-row rows row (to_actors (rows ++ row ∷ []) l) in
      let P : Row M O → Type 0 = λ r. length (mails (rows ++ r ∷ [])) ≤ deliveries (rows ++ r ∷ []) + length (under_way s (rows ++ r ∷ [])) in
      let after' = subst (λ (r : Row M O). length (under_way s (rows ++ r ∷ [])) ≡ length (mail_with (λ mail. is_born s (s.receiver mail)) (mails rows) (counts_at (copies rows) r.event)) + length r.sent) o.row_is after in
      subst P (sym o.row_is) (mails-row rows o.seat o.event o.born o.in_order after' le))
      journal lawful

  -- there are no more mails than deliveries that were made and that are owed
  pub mails_are_owed : SendsToActors s lines → (owing : Owing A M) → (journal : List (Row M O)) → Each (λ mail. 1 ≤ owing.mail mail) (mails journal) → IsLawful s lines journal → length (mails journal) ≤ deliveries journal + owed s owing journal
  mails_are_owed to_actors owing journal owes lawful =
      let a = mails_under_way to_actors journal lawful in
      let b = count_owes (λ mail. is_born s (s.receiver mail)) owing.mail (mails journal) (copies journal) owes in
      omega (arith, a, b)
  -- ---- rows

abbrev one_if : Bool → ℕ
one_if b = cond b 1 0

module _ {A M O : Type 0} (s : System A M O) where
  gone_row : (rows : List (Row M O)) (row : Row M O) (who : ℕ) (b : Bool) → (eqb row.who who && is_go row.event) ≡ b → has_started (rows ++ row ∷ []) who ≡ (has_started rows who || b)
  gone_row rows row who b e =
      list_any-append (λ (r : Row M O). eqb r.who who && is_go r.event) rows (row ∷ []) ∙ ap (λ x. has_started rows who || x) (or-false (eqb row.who who && is_go row.event) ∙ e)

  module _ (apart : are_apart s.births ≡ true) where
    -- how many seats have gone after one more row
    gone-row : (rows : List (Row M O)) (seat : Seat A) (event : Event O) → find (λ other. eqb other.who seat.who) s.births ≡ Some seat →
        count_by (λ other. has_started (rows ++ row_of s.table seat rows event ∷ []) other.who) s.births + cond (has_started rows seat.who) 1 0
        ≡ count_by (λ other. has_started rows other.who) s.births + cond (has_started rows seat.who || is_go event) 1 0
    gone-row rows seat event born =
        let row = row_of s.table seat rows event in
        let f : Seat A → ℕ = λ other. cond (has_started rows other.who) 1 0 in
        let g : Seat A → ℕ = λ other. cond (has_started (rows ++ row ∷ []) other.who) 1 0 in
        let stays : (other : Seat A) → eqb seat.who other.who ≡ false → g other ≡ f other =
        λ other e. ap (λ b. cond b 1 0) (gone_row rows row other.who false (and_left (eqb seat.who other.who) (is_go event) e) ∙ or-false (has_started rows other.who)) in
        let here : g seat ≡ cond (has_started rows seat.who || is_go event) 1 0 =
        ap (λ b. cond b 1 0) (gone_row rows row seat.who (is_go event) (ap (λ b. b && is_go event) (eq-eqb seat.who seat.who refl))) in
        one_changes f g seat.who stays s.births seat apart born ∙ ap (λ n. sum_by f s.births + n) here

    goes-row : (rows : List (Row M O)) (seat : Seat A) (event : Event O) → find (λ other. eqb other.who seat.who) s.births ≡ Some seat → IsCalmEvent s rows seat.who event →
        goes rows ≤ count_by (λ other. has_started rows other.who) s.births → goes (rows ++ row_of s.table seat rows event ∷ []) ≤ count_by (λ other. has_started (rows ++ row_of s.table seat rows event ∷ []) other.who) s.births
    goes-row rows seat (Deliver number) born fine le =
        let gone = gone-row rows seat (Deliver number) born in
        let same = ap one_if (or-false (has_started rows seat.who)) in
        let count = count_push (λ (r : Row M O). is_go r.event) rows (row_of s.table seat rows (Deliver number)) false refl in
        omega (arith, gone, same, count, le)
    goes-row rows seat Go born fine le =
        let gone = gone-row rows seat Go born in
        let before = ap one_if fine in
        let after = ap (λ b. one_if (b || true)) fine in
        let count = count_push (λ (r : Row M O). is_go r.event) rows (row_of s.table seat rows Go) true refl in
        omega (arith, gone, before, after, count, le)
    goes-row rows seat Tick born fine le = absurd fine
    goes-row rows seat (Told order) born fine le =
        let gone = gone-row rows seat (Told order) born in
        let same = ap one_if (or-false (has_started rows seat.who)) in
        let count = count_push (λ (r : Row M O). is_go r.event) rows (row_of s.table seat rows (Told order)) false refl in
        omega (arith, gone, same, count, le)
    goes-row rows seat Crash born fine le = absurd fine
    goes-row rows seat (Drop mail) born fine le = absurd fine
    goes-row rows seat (Again mail) born fine le = absurd fine

    few_of : (journal : List (Row M O)) → goes journal ≤ count_by (λ other. has_started journal other.who) s.births → goes journal ≤ length s.births
    few_of journal le = let all = count_by-le-length (λ (other : Seat A). has_started journal other.who) s.births in omega (arith, le, all)

    row_goes : (rows : List (Row M O)) (row : Row M O) → IsCalmRow s rows row → goes rows ≤ count_by (λ other. has_started rows other.who) s.births → goes (rows ++ row ∷ []) ≤ count_by (λ other. has_started (rows ++ row ∷ []) other.who) s.births
    row_goes rows row o now =
        subst (λ r. goes (rows ++ r ∷ []) ≤ count_by (λ other. has_started (rows ++ r ∷ []) other.who) s.births) (sym o.row_is) (goes-row rows o.seat o.event o.born o.calm now)

    -- each actor goes once at most
    pub goes_are_few : (lines : List (Line O)) (journal : List (Row M O)) → Each IsPlainLine lines → IsLawful s lines journal → goes journal ≤ length s.births
    goes_are_few lines journal plain lawful =
        few_of journal (by_rows s lines (λ rows. goes rows ≤ count_by (λ other. has_started rows other.who) s.births) (omega arith)
        (λ rows row l now. row_goes rows row (orderly_is_calm s rows row (orderly s lines rows row plain l)) now)
        journal lawful)

    -- with orders too
    pub goes_in_time : (journal : List (Row M O)) → AreInTime s journal → goes journal ≤ length s.births
    goes_in_time journal timely =
        few_of journal (by_time s (λ rows. goes rows ≤ count_by (λ other. has_started rows other.who) s.births) (omega arith)
        (λ rows row t now. row_goes rows row (last_in_time s rows row t).0 now)
        journal timely)

  one_of_three : (rows : List (Row M O)) (who : ℕ) (event : Event O) → IsCalmEvent s rows who event → cond (is_delivery event) 1 0 + cond (is_go event) 1 0 + cond (is_told event) 1 0 ≡ 1
  one_of_three rows who (Deliver number) fine = refl
  one_of_three rows who Go fine = refl
  one_of_three rows who (Told order) fine = refl
  one_of_three rows who _ fine = absurd fine

  -- each row delivers, tells to go or gives an order
  pub rows_of_all : (journal : List (Row M O)) → AreInTime s journal → length journal ≡ deliveries journal + goes journal + orders journal
  rows_of_all journal timely =
      by_time s (λ rows. length rows ≡ deliveries rows + goes rows + orders rows) refl
      (λ rows row t now.
      let o = (last_in_time s rows row t).0 in
      let one = subst (λ (r : Row M O). cond (is_delivery r.event) 1 0 + cond (is_go r.event) 1 0 + cond (is_told r.event) 1 0 ≡ 1) (sym o.row_is) (one_of_three rows o.seat.who o.event o.calm) in
      let a = count_push (λ (r : Row M O). is_delivery r.event) rows row (is_delivery row.event) refl in
      let b = count_push (λ (r : Row M O). is_go r.event) rows row (is_go row.event) refl in
      let d = count_push (λ (r : Row M O). is_told r.event) rows row (is_told row.event) refl in
      let len = length-append rows (row ∷ []) in
      omega (arith, one, a, b, d, len, now))
      journal timely

  one_of_two : (rows : List (Row M O)) (who : ℕ) (event : Event O) → IsInOrder s rows who event → cond (is_delivery event) 1 0 + cond (is_go event) 1 0 ≡ 1
  one_of_two rows who (Deliver number) fine = refl
  one_of_two rows who Go fine = refl
  one_of_two rows who _ fine = absurd fine

  -- each row delivers or tells to go
  pub rows_are : (lines : List (Line O)) (journal : List (Row M O)) → Each IsPlainLine lines → IsLawful s lines journal → length journal ≡ deliveries journal + goes journal
  rows_are lines journal plain lawful =
      by_rows s lines (λ rows. length rows ≡ deliveries rows + goes rows) refl
      (λ rows row l now.
      let o = orderly s lines rows row plain l in
      let one = subst (λ (r : Row M O). cond (is_delivery r.event) 1 0 + cond (is_go r.event) 1 0 ≡ 1) (sym o.row_is) (one_of_two rows o.seat.who o.event o.in_order) in
      let a = count_push (λ (r : Row M O). is_delivery r.event) rows row (is_delivery row.event) refl in
      let b = count_push (λ (r : Row M O). is_go r.event) rows row (is_go row.event) refl in
      let len = length-append rows (row ∷ []) in
      omega (arith, one, a, b, len, now))
      journal lawful
