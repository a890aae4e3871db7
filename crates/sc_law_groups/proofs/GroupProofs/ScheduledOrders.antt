-- The orders that nodes get in a lawful journal are those of its schedule.
use Rattle.std.proofs.Common.{◌≡◌, ℕ, zero, suc, ◌+◌, ◌%◌, List, [], ◌∷◌, ◌++◌, length, Bool, false, cond, eqb, find, sym, ◌∙◌, ap, subst, append_assoc, append-nil, None, Some}
use Rattle.std.specs.Prelude.{slice_get}
use Rattle.std.specs.List.{flat_map}
use Rattle.std.proofs.lemmas.Option.{cond_some}
use Rattle.std.proofs.lemmas.Bool.{eqb-true, cond_both}
use Rattle.sc_base.specs.Definitions.{Each}
use Rattle.sc_base.proofs.Lemmas.{and_then-some, map-some}
use Rattle.sc_words.proofs.PaxosProofs.PaxosLemmas.{Each-append, find_found}
use Rattle.sc_node_table.specs.Values.{Seat, Row, Event, Deliver, Drop, Again, Go, Tick, Crash, Line, Settle, Storm}
use Rattle.sc_actor.specs.declared.rows.Event.TheVariants.{Told}
use Rattle.sc_actor.specs.declared.schedules.Line.TheVariants.{Go as GoLine, Deliver as DeliverLine, Drop as DropLine, Again as AgainLine, Tick as TickLine, Crash as CrashLine, Told as ToldLine, Free}
use Rattle.sc_actor.specs.Definitions.{mails, numbered, may_get, has_crashed, System, acts, row_of, network, waiting, kth, numbers_of, has_started, IsStep, Task, Once, Settles, Frees, Storms, WalkPlace, Allows, MayAdd, IsWalk, IsLawful, onward, is_over, after_row, start, rest_of_all, tasks_of, storm_steps, delivery, repeat_of, picked, storm_row}
use Rattle.sc_actor.proofs.Lemmas.{MayAdd-step, onward-rows}
use Rattle.sc_actor.proofs.Induction.{unless-some}

module _ {O : Type 0} (Q : ℕ → O → Type 0) where
  -- an event that brings this actor only such orders
  abbrev pub GivesAllowedOrder : ℕ → Event O → Type 0
  GivesAllowedOrder who (Told order) = Q who order
  GivesAllowedOrder who (Deliver mail) = Unit {0}
  GivesAllowedOrder who Go = Unit {0}
  GivesAllowedOrder who Tick = Unit {0}
  GivesAllowedOrder who Crash = Unit {0}
  GivesAllowedOrder who (Drop mail) = Unit {0}
  GivesAllowedOrder who (Again mail) = Unit {0}

  -- a line that brings only such orders
  abbrev pub OrdersOnly : Line O → Type 0
  OrdersOnly (ToldLine who order) = Q who order
  OrdersOnly (GoLine who) = Unit {0}
  OrdersOnly (DeliverLine who k) = Unit {0}
  OrdersOnly (DropLine who k) = Unit {0}
  OrdersOnly (AgainLine mail) = Unit {0}
  OrdersOnly (TickLine who) = Unit {0}
  OrdersOnly (CrashLine who) = Unit {0}
  OrdersOnly (Settle most) = Unit {0}
  OrdersOnly (Free most workers) = Unit {0}
  OrdersOnly (Storm number most) = Unit {0}

  -- a task of such a line
  abbrev pub IsTaskSo : Task O → Type 0
  IsTaskSo (Once line) = OrdersOnly line
  IsTaskSo (Settles left) = Unit {0}
  IsTaskSo (Frees left) = Unit {0}
  IsTaskSo (Storms words) = Unit {0}

  -- ---- tasks

  storm_so : (words : ℕ → ℕ × ℕ) (step left : ℕ) → Each IsTaskSo (storm_steps words step left)
  storm_so words step zero = tt
  storm_so words step (suc left) = (tt, storm_so words (suc step) left)

  line_so : (words : ℕ → ℕ → ℕ × ℕ) (line : Line O) → OrdersOnly line → Each IsTaskSo (tasks_of words line)
  line_so words (ToldLine who order) q = (q, tt)
  line_so words (Storm number most) q = storm_so (words number) 0 most
  line_so words _ q = (tt, tt)

  lines_so : (words : ℕ → ℕ → ℕ × ℕ) (lines : List (Line O)) → Each OrdersOnly lines → Each IsTaskSo (flat_map (tasks_of words) lines)
  lines_so words [] q = tt
  lines_so words (line ∷ lines) q = Each-append IsTaskSo (tasks_of words line) (flat_map (tasks_of words) lines) (line_so words line q.0) (lines_so words lines q.1)

  rest_so : (tasks : List (Task O)) → Each IsTaskSo tasks → Each IsTaskSo (rest_of_all tasks)
  rest_so [] q = tt
  rest_so (Once line ∷ tasks) q = q.1
  rest_so (Settles left ∷ tasks) q = (tt, q.1)
  rest_so (Frees left ∷ tasks) q = (tt, q.1)
  rest_so (Storms words ∷ tasks) q = q.1

  module _ {A M : Type 0} (s : System A M O) where
    onward_so : (rows : List (Row M O)) (tasks : List (Task O)) (skipped : ℕ) (unsettled : Bool) → Each IsTaskSo tasks → Each IsTaskSo (onward s rows tasks skipped unsettled).tasks
    onward_so rows [] skipped unsettled q = tt
    onward_so rows (task ∷ tasks) skipped unsettled q =
        cond_both (is_over s rows task) _ _ (λ (place : WalkPlace M O). Each IsTaskSo place.tasks) (λ _. onward_so rows tasks _ _ q.1) (λ _. q)

    -- ---- rows

    module _ (rows : List (Row M O)) where
      acts_so : (who : ℕ) (event : Event O) (row : Row M O) → GivesAllowedOrder who event → acts s rows who event ≡ Some row → GivesAllowedOrder row.who row.event
      acts_so who event row q e =
          let m = map-some (λ seat. row_of s.table seat rows event) (find (λ seat. eqb seat.who who) s.births) row e in
          let found = find_found (λ (seat : Seat A). eqb seat.who who) s.births m.0 m.1 in
          subst (λ (r : Row M O). GivesAllowedOrder r.who r.event) m.2 (subst (λ n. GivesAllowedOrder n event) (sym (eqb-true m.0.who who found.1)) q)

      network_so : (event : Event O) (row : Row M O) → ((who : ℕ) → GivesAllowedOrder who event) → network event ≡ row → GivesAllowedOrder row.who row.event
      network_so event row q e = subst (λ (r : Row M O). GivesAllowedOrder r.who r.event) e (q 0)

      delivery_so : (mail : ℕ) (row : Row M O) → delivery s rows mail ≡ Some row → GivesAllowedOrder row.who row.event
      delivery_so mail row e = let p = and_then-some (λ m. acts s rows (s.receiver m) (Deliver mail)) (numbered (mails rows) mail) row e in acts_so (s.receiver p.0) (Deliver mail) row tt p.2

      repeat_so : (mail : ℕ) (row : Row M O) → repeat_of s rows mail ≡ Some row → GivesAllowedOrder row.who row.event
      repeat_so mail row e =
          let p = and_then-some (λ m. cond (may_get (numbers_of s.births) rows (s.receiver m)) (Some (network (Again mail))) None) (numbered (mails rows) mail) row e in
          let q = cond_some (may_get (numbers_of s.births) rows (s.receiver p.0)) (network (Again mail)) row p.2 in
          network_so (Again mail) row (λ who. tt) q.1

      row_so : (line : Line O) (row : Row M O) → OrdersOnly line → Allows s rows (Once line) row → GivesAllowedOrder row.who row.event
      row_so (GoLine who) row q e = acts_so who Go row tt (unless-some (has_started rows who) (acts s rows who Go) row e).1
      row_so (DeliverLine who k) row q e = let p = and_then-some (λ mail. acts s rows who (Deliver mail)) (kth (waiting s rows (Some who)) k) row e in acts_so who (Deliver p.0) row tt p.2
      row_so (DropLine who k) row q e = let p = map-some (λ mail. network (Drop mail)) (kth (waiting s rows (Some who)) k) row e in network_so (Drop p.0) row (λ who. tt) p.2
      row_so (AgainLine mail) row q e = repeat_so mail row e
      row_so (TickLine who) row q e = acts_so who Tick row tt (unless-some (has_crashed rows who) (acts s rows who Tick) row e).1
      row_so (CrashLine who) row q e = acts_so who Crash row tt (unless-some (has_crashed rows who) (acts s rows who Crash) row e).1
      row_so (ToldLine who order) row q e = acts_so who (Told order) row q (unless-some (has_crashed rows who) (acts s rows who (Told order)) row e).1
      row_so (Settle most) row q e = cc
      row_so (Free most workers) row q e = cc
      row_so (Storm number most) row q e = cc

      storm_row_so : (w v : ℕ) (row : Row M O) → storm_row s rows w v ≡ Some row → GivesAllowedOrder row.who row.event
      storm_row_so zero v row e = let p = map-some (λ mail. network (Drop mail)) (picked s rows v) row e in network_so (Drop p.0) row (λ who. tt) p.2
      storm_row_so (suc zero) v row e = repeat_so (1 + v % length (mails rows)) row e
      storm_row_so (suc (suc zero)) v row e =
          let p = and_then-some (λ who. cond (has_crashed rows who) None (acts s rows who Tick)) (slice_get (numbers_of s.births) (v % length (numbers_of s.births))) row e in
          acts_so p.0 Tick row tt (unless-some (has_crashed rows p.0) (acts s rows p.0 Tick) row p.2).1
      storm_row_so (suc (suc (suc more))) v row e = let p = and_then-some (delivery s rows) (picked s rows v) row e in delivery_so p.0 row p.2

      -- what a task allows brings only such orders
      pub allows_so : (task : Task O) (row : Row M O) → IsTaskSo task → Allows s rows task row → GivesAllowedOrder row.who row.event
      allows_so (Once line) row q e = row_so line row q e
      allows_so (Settles left) row q e = let p = and_then-some (delivery s rows) (kth (waiting s rows None) 1) row e in delivery_so p.0 row p.2
      allows_so (Frees left) row q e = let p = and_then-some (λ mail. acts s rows row.who (Deliver mail)) (kth (waiting s rows (Some row.who)) 1) row e in acts_so row.who (Deliver p.0) row tt p.2
      allows_so (Storms words) row q e = storm_row_so (words.0 % 16) words.1 row e

      may_add_so : (tasks : List (Task O)) (row : Row M O) → Each IsTaskSo tasks → MayAdd s rows tasks row → GivesAllowedOrder row.who row.event
      may_add_so [] row q e = absurd e
      may_add_so (task ∷ tasks) row q e = allows_so task row q.0 e

    -- ---- induction over lawful journals, where nodes get only such orders

    module _ (P : List (Row M O) → Type 0) (keeps : (rows : List (Row M O)) (row : Row M O) → P rows → GivesAllowedOrder row.who row.event → IsStep s rows row → P (rows ++ row ∷ [])) where
      walk_told : (place : WalkPlace M O) (rows : List (Row M O)) → Each IsTaskSo place.tasks → P place.rows → IsWalk s place rows → P (place.rows ++ rows)
      walk_told place [] q now walk = subst P (sym (append-nil place.rows)) now
      walk_told place (row ∷ rows) q now walk =
          let there : (after_row s place row).rows ≡ place.rows ++ row ∷ [] = onward-rows s (place.rows ++ row ∷ []) (rest_of_all place.tasks) place.skipped place.unsettled in
          let left = onward_so (place.rows ++ row ∷ []) (rest_of_all place.tasks) place.skipped place.unsettled (rest_so place.tasks q) in
          let told = may_add_so place.rows place.tasks row q walk.0 in
          let next = walk_told (after_row s place row) rows left (subst P (sym there) (keeps place.rows row now told (MayAdd-step s place.rows place.tasks row walk.0))) walk.1 in
          subst P (ap (λ xs. xs ++ rows) there ∙ append_assoc place.rows (row ∷ []) rows) next

      -- induction over the rows
      pub told_induction : (lines : List (Line O)) (journal : List (Row M O)) → Each OrdersOnly lines → P [] → IsLawful s lines journal → P journal
      told_induction lines journal q none lawful =
          let there : (start s lines).rows ≡ [] = onward-rows s [] (flat_map (tasks_of s.words) lines) 0 false in
          let tasks = onward_so [] (flat_map (tasks_of s.words) lines) 0 false (lines_so s.words lines q) in
          subst P (ap (λ xs. xs ++ journal) there) (walk_told (start s lines) journal tasks (subst P (sym there) none) lawful)
