-- In a lawful journal an actor crashes only where a line lets it.
use Rattle.std.proofs.Common.{◌≡◌, ◌≢◌, ℕ, zero, suc, ◌+◌, ◌%◌, Bool, true, false, eqb, cond, ◌||◌, ◌&&◌, find, List, [], ◌∷◌, ◌++◌, length, refl, sym, ap, ◌∙◌, arith, Option, Some, None, Contains}
use Rattle.std.specs.Prelude.{slice_get, option_and_then}
use Rattle.std.specs.Option.{option_map}
use Rattle.std.specs.List.{flat_map}
use Rattle.std.proofs.lemmas.Bool.{cond_both, eqb-true}
use Rattle.std.proofs.lemmas.Option.{cond_some}
use Rattle.sc_base.proofs.CommonLemmas.{and_then-some, map-some}
use Rattle.sc_actor.specs.declared.rows.Row.{Row}
use Rattle.sc_actor.specs.declared.rows.Event.{Event}
use Rattle.sc_actor.specs.declared.rows.Event.TheVariants.{Deliver, Tick, Go, Told, Crash, Drop, Again}
use Rattle.sc_actor.specs.declared.schedules.Line.{Line}
use Rattle.sc_actor.specs.declared.schedules.Line.TheVariants.{Go as GoLine, Deliver as DeliverLine, Drop as DropLine, Again as AgainLine, Tick as TickLine, Crash as CrashLine, Told as ToldLine, Settle, Free, Storm}
use Rattle.sc_actor.specs.Mail.{mails, numbered, may_get, has_crashed, is_crash}
use Rattle.sc_actor.specs.System.{System, acts, row_of, network, waiting, kth, numbers_of, has_started}
use Rattle.sc_actor.specs.Walk.{Task, Once, Settles, Frees, Storms, WalkPlace, Allows, MayAdd, IsWalk, IsLawful, after_row, start, onward, is_over, skips, cuts, rest_of_all, tasks_of, storm_steps, line_row, delivery, repeat_of, picked, storm_row}
use Rattle.sc_actor.proofs.Induction.{find-who}

-- of two tests that both fail
pub both_out : (a b : Bool) → a ≡ false → b ≡ false → (a || b) ≡ false
both_out true b e f = e
both_out false b e f = f

and_false : (b : Bool) → (b && false) ≡ false
and_false true = refl
and_false false = refl

-- the row is no crash of the actor
abbrev IsNoCrash : {M O : Type 0} → ℕ → Row M O → Type 0
IsNoCrash who row = (eqb row.who who && is_crash row.event) ≡ false

-- none of these tasks lets the actor crash
abbrev NoneCrashes : {O : Type 0} → ℕ → List (Task O) → Type 0
NoneCrashes who [] = Unit {0}
NoneCrashes who (task ∷ tasks) = (task ≢ Once (CrashLine who)) × NoneCrashes who tasks

module _ {A M O : Type 0} (s : System A M O) (rows : List (Row M O)) (who : ℕ) (row : Row M O) where
  by_event : (event : Event O) → row.event ≡ event → is_crash event ≡ false → IsNoCrash who row
  by_event event is none = ap (λ e. eqb row.who who && is_crash e) is ∙ (ap (λ b. eqb row.who who && b) none ∙ and_false (eqb row.who who))

  acts_is : (w : ℕ) (event : Event O) → acts s rows w event ≡ Some row → (row.who ≡ w) × (row.event ≡ event)
  acts_is w event e =
      let m = map-some (λ seat. row_of s.table seat rows event) (find (λ seat. eqb seat.who w) s.births) row e in
      (ap (λ (r : Row M O). r.who) (sym m.2) ∙ find-who s.births w m.0 m.1, ap (λ (r : Row M O). r.event) (sym m.2))

  acted : (w : ℕ) (event : Event O) → acts s rows w event ≡ Some row → is_crash event ≡ false → IsNoCrash who row
  acted w event e none = by_event event (acts_is w event e).1 none

  unless_is : (b : Bool) (o : Option (Row M O)) → cond b None o ≡ Some row → o ≡ Some row
  unless_is true o e = cc
  unless_is false o e = e

  told : (w : ℕ) (event : Event O) → cond (has_crashed rows w) None (acts s rows w event) ≡ Some row → is_crash event ≡ false → IsNoCrash who row
  told w event e none = acted w event (unless_is (has_crashed rows w) (acts s rows w event) e) none

  of_network : (event : Event O) → network event ≡ row → is_crash event ≡ false → IsNoCrash who row
  of_network event is none = by_event event (ap (λ (r : Row M O). r.event) (sym is)) none

  delivered : (w : ℕ) (o : Option ℕ) → option_and_then (λ mail. acts s rows w (Deliver mail)) o ≡ Some row → IsNoCrash who row
  delivered w o e = let p = and_then-some (λ mail. acts s rows w (Deliver mail)) o row e in acted w (Deliver p.0) p.2 refl

  of_delivery : (mail : ℕ) → delivery s rows mail ≡ Some row → IsNoCrash who row
  of_delivery mail e =
      let p = and_then-some (λ m. acts s rows (s.receiver m) (Deliver mail)) (numbered (mails rows) mail) row e in
      acted (s.receiver p.0) (Deliver mail) p.2 refl

  lost : (o : Option ℕ) → option_map (λ mail. network (Drop mail)) o ≡ Some row → IsNoCrash who row
  lost o e = let m = map-some (λ mail. network (Drop mail)) o row e in of_network (Drop m.0) m.2 refl

  repeated : (mail : ℕ) → repeat_of s rows mail ≡ Some row → IsNoCrash who row
  repeated mail e =
      let p = and_then-some (λ m. cond (may_get (numbers_of s.births) rows (s.receiver m)) (Some (network (Again mail))) None) (numbered (mails rows) mail) row e in
      let q = cond_some (may_get (numbers_of s.births) rows (s.receiver p.0)) (network (Again mail)) row p.2 in
      of_network (Again mail) q.1 refl

  -- the row of a crash is of the line's actor
  crashed : (w : ℕ) → line_row s rows (CrashLine w) ≡ Some row → w ≢ who → IsNoCrash who row
  crashed w e other =
      let who_is = (acts_is w Crash (unless_is (has_crashed rows w) (acts s rows w Crash) e)).0 in
      by (eqb row.who who) refl who_is
    where
      by : (b : Bool) → eqb row.who who ≡ b → row.who ≡ w → (b && is_crash row.event) ≡ false
      by true t is = absurd (other (sym is ∙ eqb-true row.who who t))
      by false t is = refl

  -- a row of a line
  of_line : (line : Line O) → line_row s rows line ≡ Some row → line ≢ CrashLine who → IsNoCrash who row
  of_line (GoLine w) e other = acted w Go (unless_is (has_started rows w) (acts s rows w Go) e) refl
  of_line (DeliverLine w k) e other = delivered w (kth (waiting s rows (Some w)) k) e
  of_line (DropLine w k) e other = lost (kth (waiting s rows (Some w)) k) e
  of_line (AgainLine mail) e other = repeated mail e
  of_line (TickLine w) e other = told w Tick e refl
  of_line (CrashLine w) e other = crashed w e (λ same. other (ap CrashLine same))
  of_line (ToldLine w order) e other = told w (Told order) e refl
  of_line (Settle most) e other = cc
  of_line (Free most workers) e other = cc
  of_line (Storm number most) e other = cc

  -- a step of a storm
  of_storm : (word v : ℕ) → storm_row s rows word v ≡ Some row → IsNoCrash who row
  of_storm zero v e = lost (picked s rows v) e
  of_storm (suc zero) v e = repeated (1 + v % length (mails rows)) e
  of_storm (suc (suc zero)) v e =
      let p = and_then-some (λ w. cond (has_crashed rows w) None (acts s rows w Tick)) (slice_get (numbers_of s.births) (v % length (numbers_of s.births))) row e in
      told p.0 Tick p.2 refl
  of_storm (suc (suc (suc more))) v e = let p = and_then-some (delivery s rows) (picked s rows v) row e in of_delivery p.0 p.2

  -- a row of a task
  of_task : (task : Task O) → Allows s rows task row → task ≢ Once (CrashLine who) → IsNoCrash who row
  of_task (Once line) e other = of_line line e (λ same. other (ap Once same))
  of_task (Settles left) e other = let p = and_then-some (delivery s rows) (kth (waiting s rows None) 1) row e in of_delivery p.0 p.2
  of_task (Frees left) e other = delivered row.who (kth (waiting s rows (Some row.who)) 1) e
  of_task (Storms words) e other = of_storm (words.0 % 16) words.1 e

  -- a row that comes next
  of_next : (tasks : List (Task O)) → MayAdd s rows tasks row → NoneCrashes who tasks → IsNoCrash who row
  of_next [] e none = absurd e
  of_next (task ∷ tasks) e none = of_task task e none.0

module _ {O : Type 0} (who : ℕ) where
  rest_none : (tasks : List (Task O)) → NoneCrashes who tasks → NoneCrashes who (rest_of_all tasks)
  rest_none [] none = tt
  rest_none (Once line ∷ tasks) none = none.1
  rest_none (Settles left ∷ tasks) none = (λ same. cc, none.1)
  rest_none (Frees left ∷ tasks) none = (λ same. cc, none.1)
  rest_none (Storms words ∷ tasks) none = none.1

  storm_none : (words : ℕ → ℕ × ℕ) (step most : ℕ) (rest : List (Task O)) → NoneCrashes who rest → NoneCrashes who (storm_steps words step most ++ rest)
  storm_none words step zero rest none = none
  storm_none words step (suc most) rest none = (λ same. cc, storm_none words (suc step) most rest none)

  line_none : (words : ℕ → ℕ → ℕ × ℕ) (line : Line O) (rest : List (Task O)) → line ≢ CrashLine who → NoneCrashes who rest → NoneCrashes who (tasks_of words line ++ rest)
  line_none words (GoLine w) rest other none = (λ same. cc, none)
  line_none words (DeliverLine w k) rest other none = (λ same. cc, none)
  line_none words (DropLine w k) rest other none = (λ same. cc, none)
  line_none words (AgainLine mail) rest other none = (λ same. cc, none)
  line_none words (TickLine w) rest other none = (λ same. cc, none)
  line_none words (CrashLine w) rest other none = (λ same. other (let is : CrashLine w ≡ CrashLine who = cc in is), none)
  line_none words (ToldLine w order) rest other none = (λ same. cc, none)
  line_none words (Settle most) rest other none = (λ same. cc, none)
  line_none words (Free most workers) rest other none = (λ same. cc, none)
  line_none words (Storm number most) rest other none = storm_none (words number) 0 most rest none

  lines_none : (words : ℕ → ℕ → ℕ × ℕ) (lines : List (Line O)) → ¬ Contains lines (CrashLine who) → NoneCrashes who (flat_map (tasks_of words) lines)
  lines_none words [] none = tt
  lines_none words (line ∷ lines) none =
      line_none words line (flat_map (tasks_of words) lines) (λ is. none (0, omega arith, is)) (lines_none words lines (λ c. none (suc c.0, omega (arith, c.1), c.2)))

module _ {A M O : Type 0} (s : System A M O) (who : ℕ) where
  onward_none : (rows : List (Row M O)) (tasks : List (Task O)) (skipped : ℕ) (cut : Bool) → NoneCrashes who tasks → NoneCrashes who (onward s rows tasks skipped cut).tasks
  onward_none rows [] skipped cut none = tt
  onward_none rows (task ∷ tasks) skipped cut none =
      cond_both (is_over s rows task) (onward s rows tasks (skipped + skips task) (cut || cuts s rows task)) (record { tasks = task ∷ tasks; rows = rows; skipped = skipped; unsettled = cut }) (λ p. NoneCrashes who p.tasks)
      (λ _. onward_none rows tasks (skipped + skips task) (cut || cuts s rows task) none.1) (λ _. none)

  walk_none : (place : WalkPlace M O) (rows : List (Row M O)) → NoneCrashes who place.tasks → IsWalk s place rows → has_crashed rows who ≡ false
  walk_none place [] none walk = refl
  walk_none place (row ∷ rows) none walk =
      both_out (eqb row.who who && is_crash row.event) (has_crashed rows who) (of_next s place.rows who row place.tasks walk.0 none)
      (walk_none (after_row s place row) rows (onward_none (place.rows ++ row ∷ []) (rest_of_all place.tasks) place.skipped place.unsettled (rest_none who place.tasks none)) walk.1)

  -- an actor that no line lets crash has not crashed
  pub never_crashed : (lines : List (Line O)) (rows : List (Row M O)) → IsLawful s lines rows → ¬ Contains lines (CrashLine who) → has_crashed rows who ≡ false
  never_crashed lines rows lawful none = walk_none (start s lines) rows (onward_none [] (flat_map (tasks_of s.words) lines) 0 false (lines_none who s.words lines none)) lawful
