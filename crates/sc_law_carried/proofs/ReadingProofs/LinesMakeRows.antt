-- Lines of which each makes one row make a lawful journal; and rows that lines of one row each allow are no more than these lines.
use Rattle.std.proofs.Common.{◌≡◌, ℕ, suc, ◌+◌, ◌≤◌, List, [], ◌∷◌, ◌++◌, length, Bool, false, refl, sym, ◌∙◌, ap, subst, arith, append_assoc, append-nil, Some, ◌||◌}
use Rattle.std.specs.Prelude.{is_none}
use Rattle.std.specs.List.{flat_map}
use Rattle.std.proofs.lemmas.Bool.{cond_both}
use Rattle.sc_base.specs.Definitions.{Each}
use Rattle.sc_actor.specs.declared.rows.Row.{Row}
use Rattle.sc_actor.specs.declared.schedules.Line.{Line}
use Rattle.sc_actor.specs.declared.schedules.Line.TheVariants.{Go as GoLine, Deliver as DeliverLine, Drop as DropLine, Again as AgainLine, Tick as TickLine, Crash as CrashLine, Told as ToldLine, Settle, Free, Storm}
use Rattle.sc_actor.specs.Definitions.{System, IsLawful, IsWalk, MayAdd, WalkPlace, Task, Once, Settles, Frees, Storms, line_row, is_over, skips, cuts, tasks_of, onward, after_row, rest_of_all, start}
use Rattle.sc_actor.proofs.Lemmas.{Stands, Stands-begin, Stands-row}

-- a line that makes at most one row
abbrev pub IsOfOneRow : {O : Type 0} → Line O → Type 0
IsOfOneRow (GoLine who) = Unit {0}
IsOfOneRow (DeliverLine who k) = Unit {0}
IsOfOneRow (DropLine who k) = Unit {0}
IsOfOneRow (AgainLine mail) = Unit {0}
IsOfOneRow (TickLine who) = Unit {0}
IsOfOneRow (CrashLine who) = Unit {0}
IsOfOneRow (ToldLine who order) = Unit {0}
IsOfOneRow (Settle most) = ⊥
IsOfOneRow (Free most workers) = ⊥
IsOfOneRow (Storm number most) = ⊥

-- its task is itself
one_task : {O : Type 0} (words : ℕ → ℕ → ℕ × ℕ) (line : Line O) → IsOfOneRow line → tasks_of words line ≡ Once line ∷ []
one_task words (GoLine who) one = refl
one_task words (DeliverLine who k) one = refl
one_task words (DropLine who k) one = refl
one_task words (AgainLine mail) one = refl
one_task words (TickLine who) one = refl
one_task words (CrashLine who) one = refl
one_task words (ToldLine who order) one = refl
one_task words (Settle most) one = absurd one
one_task words (Free most workers) one = absurd one
one_task words (Storm number most) one = absurd one

-- a task of a line of one row
abbrev IsOnce : {O : Type 0} → Task O → Type 0
IsOnce (Once line) = Unit {0}
IsOnce (Settles left) = ⊥
IsOnce (Frees left) = ⊥
IsOnce (Storms words) = ⊥

-- such lines have one task each
tasks_once : {O : Type 0} (words : ℕ → ℕ → ℕ × ℕ) (lines : List (Line O)) → Each IsOfOneRow lines → Each IsOnce (flat_map (tasks_of words) lines) × (length (flat_map (tasks_of words) lines) ≡ length lines)
tasks_once words [] ones = (tt, refl)
tasks_once {O} words (line ∷ lines) ones =
    let more = tasks_once words lines ones.1 in
    let here = one_task words line ones.0 in
    let once : Task O = Once line in (
      subst (λ ts. Each IsOnce (ts ++ flat_map (tasks_of words) lines)) (sym here) (tt, more.0),
      ap (λ ts. length (ts ++ flat_map (tasks_of words) lines)) here ∙ ap suc more.1,
    )

module _ {A M O : Type 0} (s : System A M O) where
  -- each of these lines makes the row at its place, after the rows before it
  abbrev pub LinesMake : List (Row M O) → List (Line O) → List (Row M O) → Type 0
  LinesMake before [] [] = Unit {0}
  LinesMake before [] (row ∷ rows) = ⊥
  LinesMake before (line ∷ lines) [] = ⊥
  LinesMake before (line ∷ lines) (row ∷ rows) = (line_row s before line ≡ Some row) × LinesMake (before ++ row ∷ []) lines rows

  goes : (all lines : List (Line O)) (before rows : List (Row M O)) → Each IsOfOneRow lines → Stands s all before (flat_map (tasks_of s.words) lines) 0 false → LinesMake before lines rows → IsLawful s all (before ++ rows)
  goes all [] before [] ones stands made = subst (IsLawful s all) (sym (append-nil before)) stands.lawful
  goes all [] before (row ∷ rows) ones stands made = absurd made
  goes all (line ∷ lines) before [] ones stands made = absurd made
  goes all (line ∷ lines) before (row ∷ rows) ones stands made =
      let tasks = flat_map (tasks_of s.words) lines in
      let here : Stands s all before (Once line ∷ tasks) 0 false = subst (λ ts. Stands s all before (ts ++ tasks) 0 false) (one_task s.words line ones.0) stands in
      let open_ : is_over s before (Once line) ≡ false = ap is_none made.0 in
      let next : Stands s all (before ++ row ∷ []) tasks 0 false = Stands-row s all before (Once line) tasks 0 false row here open_ made.0 in
      subst (IsLawful s all) (append_assoc before (row ∷ []) rows) (goes all lines (before ++ row ∷ []) rows ones.1 next made.1)

  -- rows that lines make, one each, are lawful
  pub made_are_lawful : (lines : List (Line O)) (rows : List (Row M O)) → Each IsOfOneRow lines → LinesMake [] lines rows → IsLawful s lines rows
  made_are_lawful lines rows ones made = goes lines lines [] rows ones (Stands-begin s lines) made

  -- passing tasks leaves some of them
  fewer : (rows : List (Row M O)) (tasks : List (Task O)) (k : ℕ) (c : Bool) → Each IsOnce tasks → Each IsOnce (onward s rows tasks k c).tasks × (length (onward s rows tasks k c).tasks ≤ length tasks)
  fewer rows [] k c once = (tt, omega arith)
  fewer rows (task ∷ tasks) k c once =
      cond_both (is_over s rows task) (onward s rows tasks (k + skips task) (c || cuts s rows task)) (record { tasks = task ∷ tasks; rows = rows; skipped = k; unsettled = c })
      (λ p. Each IsOnce p.tasks × (length p.tasks ≤ length (task ∷ tasks)))
      (λ _. let more = fewer rows tasks (k + skips task) (c || cuts s rows task) once.1 in (more.0, omega (arith, more.1)))
      (λ _. (once, omega arith))

  -- a walk makes at most one row for each task
  rows_within : (place : WalkPlace M O) (rows : List (Row M O)) → Each IsOnce place.tasks → IsWalk s place rows → length rows ≤ length place.tasks
  rows_within place [] once walk = omega arith
  rows_within place (row ∷ rows) once walk = by place.tasks refl (λ once_left. rows_within (after_row s place row) rows once_left walk.1)
    where
      by : (tasks : List (Task O)) → place.tasks ≡ tasks → (Each IsOnce (after_row s place row).tasks → length rows ≤ length (after_row s place row).tasks) → length (row ∷ rows) ≤ length place.tasks
      by [] e more = absurd (subst (λ ts. MayAdd s place.rows ts row) e walk.0)
      by (Once line ∷ tasks) e more =
          let left : rest_of_all place.tasks ≡ tasks = ap rest_of_all e in
          let once_left : Each IsOnce tasks = (subst (Each IsOnce) e once).1 in
          let less = fewer (place.rows ++ row ∷ []) (rest_of_all place.tasks) place.skipped place.unsettled (subst (Each IsOnce) (sym left) once_left) in
          let within = more less.0 in
          let same : length (rest_of_all place.tasks) ≡ length tasks = ap length left in
          let whole : length place.tasks ≡ suc (length tasks) = ap length e in
          omega (arith, less.1, within, same, whole)
      by (Settles left ∷ tasks) e more = absurd (subst (Each IsOnce) e once).0
      by (Frees left ∷ tasks) e more = absurd (subst (Each IsOnce) e once).0
      by (Storms words ∷ tasks) e more = absurd (subst (Each IsOnce) e once).0

  -- lawful rows are no more than the lines, where each makes at most one
  pub no_more_rows : (lines : List (Line O)) (rows : List (Row M O)) → Each IsOfOneRow lines → IsLawful s lines rows → length rows ≤ length lines
  no_more_rows lines rows ones lawful =
      let tasks = tasks_once s.words lines ones in
      let less = fewer [] (flat_map (tasks_of s.words) lines) 0 false tasks.0 in
      let within = rows_within (start s lines) rows less.0 lawful in
      omega (arith, less.1, within, tasks.1)
