-- A lawful journal of lines that do an actor no harm, by a crash or an order, has no row that does.
use Rattle.std.proofs.Common.{◌≡◌, ℕ, zero, suc, ◌+◌, ◌%◌, List, [], ◌∷◌, ◌++◌, Bool, false, true, cond, eqb, find, length, sym, ◌∙◌, ap, fold, None, Some}
use Rattle.std.specs.Prelude.{slice_get}
use Rattle.std.specs.List.{flat_map}
use Rattle.std.proofs.lemmas.Bool.{cond_both}
use Rattle.sc_base.specs.Definitions.{Each}
use Rattle.sc_base.proofs.Lemmas.{and_then-some, map-some}
use Rattle.sc_words.proofs.PaxosProofs.PaxosLemmas.{Each-append}
use Rattle.sc_actor.specs.declared.rows.Row.{Row}
use Rattle.sc_actor.specs.declared.rows.Event.{Event}
use Rattle.sc_actor.specs.declared.rows.Event.TheVariants.{Deliver, Tick, Go, Told, Crash, Drop, Again}
use Rattle.sc_actor.specs.declared.schedules.Line.{Line}
use Rattle.sc_actor.specs.declared.schedules.Line.TheVariants.{Go as GoLine, Deliver as DeliverLine, Drop as DropLine, Again as AgainLine, Tick as TickLine, Crash as CrashLine, Told as ToldLine, Settle, Free, Storm}
use Rattle.sc_actor.specs.Definitions.{mails, numbered, may_get, numbers_of, row_of, network, has_crashed, System, acts, waiting, kth, has_started, Task, Once, Settles, Frees, Storms, WalkPlace, Allows, MayAdd, IsLawful, onward, is_over, after_row, place_after, rest_of_all, tasks_of, delivery, repeat_of, picked, storm_row, storm_steps}
use Rattle.sc_actor.proofs.Lemmas.{lawful-last, unless-some, find-who}
use Rattle.sc_live_orderly.proofs.OrderlyLemmas.{by_rows}
use Rattle.sc_live_orderly.proofs.QuietLineEnds.{acts-event}

-- an event of crashes and orders alone that does an actor harm
pub record Harm (O : Type 0) : Type 0 where
  pub harmful : ℕ → Event O → Bool
  pub goes : (who : ℕ) → harmful who Go ≡ false
  pub delivers : (who number : ℕ) → harmful who (Deliver number) ≡ false
  pub ticks : (who : ℕ) → harmful who Tick ≡ false
  pub drops : (who number : ℕ) → harmful who (Drop number) ≡ false
  pub repeats : (who number : ℕ) → harmful who (Again number) ≡ false

-- a line does no harm
abbrev pub IsHarmless : {O : Type 0} → Harm O → Line O → Type 0
IsHarmless h (CrashLine who) = h.harmful who Crash ≡ false
IsHarmless h (ToldLine who order) = h.harmful who (Told order) ≡ false
IsHarmless h _ = Unit {0}

-- a task does no harm
abbrev IsHarmlessTask : {O : Type 0} → Harm O → Task O → Type 0
IsHarmlessTask h (Once line) = IsHarmless h line
IsHarmlessTask h (Settles left) = Unit {0}
IsHarmlessTask h (Frees left) = Unit {0}
IsHarmlessTask h (Storms words) = Unit {0}

module _ {A M O : Type 0} (s : System A M O) (h : Harm O) where
  -- ---- tasks

  abbrev Harmless : List (Task O) → Type 0
  Harmless tasks = Each (IsHarmlessTask h) tasks

  storm_tasks : (words : ℕ → ℕ × ℕ) (step most : ℕ) → Harmless (storm_steps words step most)
  storm_tasks words step zero = tt
  storm_tasks words step (suc most) = (tt, storm_tasks words (suc step) most)

  line_tasks : (line : Line O) → IsHarmless h line → Harmless (tasks_of s.words line)
  line_tasks (Storm number most) p = storm_tasks (s.words number) 0 most
  line_tasks (CrashLine who) p = (p, tt)
  line_tasks (ToldLine who order) p = (p, tt)
  line_tasks _ p = (tt, tt)

  lines_tasks : (lines : List (Line O)) → Each (IsHarmless h) lines → Harmless (flat_map (tasks_of s.words) lines)
  lines_tasks [] p = tt
  lines_tasks (line ∷ lines) p = Each-append (IsHarmlessTask h) (tasks_of s.words line) (flat_map (tasks_of s.words) lines) (line_tasks line p.0) (lines_tasks lines p.1)

  rest_tasks : (tasks : List (Task O)) → Harmless tasks → Harmless (rest_of_all tasks)
  rest_tasks [] p = tt
  rest_tasks (Once line ∷ tasks) p = p.1
  rest_tasks (Settles left ∷ tasks) p = (tt, p.1)
  rest_tasks (Frees left ∷ tasks) p = (tt, p.1)
  rest_tasks (Storms words ∷ tasks) p = p.1

  onward_tasks : (rows : List (Row M O)) (tasks : List (Task O)) (skipped : ℕ) (unsettled : Bool) → Harmless tasks → Harmless (onward s rows tasks skipped unsettled).tasks
  onward_tasks rows [] skipped unsettled p = tt
  onward_tasks rows (task ∷ tasks) skipped unsettled p =
      cond_both (is_over s rows task) _ _ (λ (place : WalkPlace M O). Harmless place.tasks) (λ _. onward_tasks rows tasks _ _ p.1) (λ _. p)

  walk_tasks : (place : WalkPlace M O) (rows : List (Row M O)) → Harmless place.tasks → Harmless (fold (after_row s) place rows).tasks
  walk_tasks place [] p = p
  walk_tasks place (row ∷ rows) p = walk_tasks (after_row s place row) rows (onward_tasks (place.rows ++ row ∷ []) (rest_of_all place.tasks) place.skipped place.unsettled (rest_tasks place.tasks p))

  -- ---- rows

  abbrev IsHarmlessRow : Row M O → Type 0
  IsHarmlessRow row = h.harmful row.who row.event ≡ false

  module _ (rows : List (Row M O)) where
    acts_so : (who : ℕ) (event : Event O) (row : Row M O) → ((actor : ℕ) → h.harmful actor event ≡ false) → acts s rows who event ≡ Some row → IsHarmlessRow row
    acts_so who event row n e = ap (λ (x : Event O). h.harmful row.who x) (sym (acts-event s rows who event row e)) ∙ n row.who

    -- the row is the actor's own
    acts_own : (who : ℕ) (event : Event O) (row : Row M O) → h.harmful who event ≡ false → acts s rows who event ≡ Some row → IsHarmlessRow row
    acts_own who event row n e =
        let m = map-some (λ seat. row_of s.table seat rows event) (find (λ seat. eqb seat.who who) s.births) row e in
        let who_is : row.who ≡ who = sym (ap (λ (r : Row M O). r.who) m.2) ∙ find-who s.births who m.0 m.1 in
        ap (λ (x : Event O). h.harmful row.who x) (sym (acts-event s rows who event row e)) ∙ (ap (λ (n : ℕ). h.harmful n event) who_is ∙ n)

    delivered_so : (mail : ℕ) (row : Row M O) → delivery s rows mail ≡ Some row → IsHarmlessRow row
    delivered_so mail row e = (let p = and_then-some (λ m. acts s rows (s.receiver m) (Deliver mail)) (numbered (mails rows) mail) row e in acts_so (s.receiver p.0) (Deliver mail) row (λ actor. h.delivers actor mail) p.2)

    repeat_so : (mail : ℕ) (row : Row M O) → repeat_of s rows mail ≡ Some row → IsHarmlessRow row
    repeat_so mail row e =
        let p = and_then-some (λ m. cond (may_get (numbers_of s.births) rows (s.receiver m)) (Some (network (Again mail))) None) (numbered (mails rows) mail) row e in
        by (may_get (numbers_of s.births) rows (s.receiver p.0)) p.2
      where
        by : (b : Bool) → cond b (Some (network {M = M} {O = O} (Again mail))) None ≡ Some row → IsHarmlessRow row
        by true q = (let same : network (Again mail) ≡ row = cc in ap (λ (r : Row M O). h.harmful r.who r.event) (sym same) ∙ h.repeats 0 mail)
        by false q = absurd (cc)

    dropped_so : (mail : ℕ) (row : Row M O) → network (Drop mail) ≡ row → IsHarmlessRow row
    dropped_so mail row e = ap (λ (r : Row M O). h.harmful r.who r.event) (sym e) ∙ h.drops 0 mail

    storm_so : (w v : ℕ) (row : Row M O) → storm_row s rows w v ≡ Some row → IsHarmlessRow row
    storm_so zero v row e = (let p = map-some (λ mail. network (Drop mail)) (picked s rows v) row e in dropped_so p.0 row p.2)
    storm_so (suc zero) v row e = repeat_so (1 + v % length (mails rows)) row e
    storm_so (suc (suc zero)) v row e =
        let p = and_then-some (λ who. cond (has_crashed rows who) None (acts s rows who Tick)) (slice_get (numbers_of s.births) (v % length (numbers_of s.births))) row e in
        let q = unless-some (has_crashed rows p.0) (acts s rows p.0 Tick) row p.2 in
        acts_so p.0 Tick row h.ticks q.1
    storm_so (suc (suc (suc more))) v row e = (let p = and_then-some (delivery s rows) (picked s rows v) row e in delivered_so p.0 row p.2)

    allowed_so : (task : Task O) (row : Row M O) → IsHarmlessTask h task → Allows s rows task row → IsHarmlessRow row
    allowed_so (Once (GoLine who)) row n e = acts_so who Go row h.goes (unless-some (has_started rows who) (acts s rows who Go) row e).1
    allowed_so (Once (DeliverLine who k)) row n e = (let p = and_then-some (λ mail. acts s rows who (Deliver mail)) (kth (waiting s rows (Some who)) k) row e in acts_so who (Deliver p.0) row (λ actor. h.delivers actor p.0) p.2)
    allowed_so (Once (DropLine who k)) row n e = (let p = map-some (λ mail. network (Drop mail)) (kth (waiting s rows (Some who)) k) row e in dropped_so p.0 row p.2)
    allowed_so (Once (AgainLine mail)) row n e = repeat_so mail row e
    allowed_so (Once (TickLine who)) row n e = acts_so who Tick row h.ticks (unless-some (has_crashed rows who) (acts s rows who Tick) row e).1
    allowed_so (Once (CrashLine who)) row n e = acts_own who Crash row n (unless-some (has_crashed rows who) (acts s rows who Crash) row e).1
    allowed_so (Once (ToldLine who order)) row n e = acts_own who (Told order) row n (unless-some (has_crashed rows who) (acts s rows who (Told order)) row e).1
    allowed_so (Once (Settle most)) row n e = absurd (cc)
    allowed_so (Once (Free most workers)) row n e = absurd (cc)
    allowed_so (Once (Storm number most)) row n e = absurd (cc)
    allowed_so (Settles left) row n e = (let p = and_then-some (delivery s rows) (kth (waiting s rows None) 1) row e in delivered_so p.0 row p.2)
    allowed_so (Frees left) row n e = (let p = and_then-some (λ mail. acts s rows row.who (Deliver mail)) (kth (waiting s rows (Some row.who)) 1) row e in acts_so row.who (Deliver p.0) row (λ actor. h.delivers actor p.0) p.2)
    allowed_so (Storms words) row n e = storm_so (words.0 % 16) words.1 row e

    added_so : (tasks : List (Task O)) (row : Row M O) → Harmless tasks → MayAdd s rows tasks row → IsHarmlessRow row
    added_so [] row n e = absurd e
    added_so (task ∷ tasks) row n e = allowed_so task row n.0 e

  pub rows_harmless : (lines : List (Line O)) (journal : List (Row M O)) → Each (IsHarmless h) lines → IsLawful s lines journal → Each IsHarmlessRow journal
  rows_harmless lines journal n lawful =
      by_rows s lines (λ (rows : List (Row M O)). Each IsHarmlessRow rows) tt
      (λ rows row l k. Each-append IsHarmlessRow rows (row ∷ []) k (added_so rows (place_after s lines rows).tasks row (walk_tasks _ rows (onward_tasks [] (flat_map (tasks_of s.words) lines) 0 false (lines_tasks lines n))) (lawful-last s lines rows row l), tt)) journal lawful
