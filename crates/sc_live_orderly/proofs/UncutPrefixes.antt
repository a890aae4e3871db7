-- A line that was cut off stays so: where no line of a journal was, none of its prefixes was.
use Rattle.std.proofs.Common.{◌≡◌, ℕ, ◌+◌, List, [], ◌∷◌, ◌++◌, Bool, true, false, cond, ◌||◌, fold, refl, sym, ◌∙◌, ap}
use Rattle.std.proofs.lemmas.List.Sums.{fold-append}
use Rattle.sc_actor.specs.declared.rows.Row.{Row}
use Rattle.sc_actor.specs.declared.schedules.Line.{Line}
use Rattle.sc_actor.specs.Definitions.{System, Task, WalkPlace, onward, is_over, cuts, skips, after_row, rest_of_all, unsettled}

module _ {A M O : Type 0} (s : System A M O) where
  pub onward_cut : (rows : List (Row M O)) (tasks : List (Task O)) (skipped : ℕ) (cut : Bool) → (onward s rows tasks skipped cut).unsettled ≡ false → cut ≡ false
  onward_cut rows [] skipped cut e = e
  onward_cut rows (task ∷ tasks) skipped cut e = by (is_over s rows task) e (onward_cut rows tasks (skipped + skips task) (cut || cuts s rows task))
    where
      none : (a b : Bool) → (a || b) ≡ false → a ≡ false
      none true b e = e
      none false b e = refl

      by : (b : Bool) → (cond b (onward s rows tasks (skipped + skips task) (cut || cuts s rows task)) (record { tasks = task ∷ tasks; rows = rows; skipped = skipped; unsettled = cut })).unsettled ≡ false
          → ((onward s rows tasks (skipped + skips task) (cut || cuts s rows task)).unsettled ≡ false → (cut || cuts s rows task) ≡ false) → cut ≡ false
      by true e' more = none cut (cuts s rows task) (more e')
      by false e' more = e'

  walk_cut : (place : WalkPlace M O) (rows : List (Row M O)) → (fold (after_row s) place rows).unsettled ≡ false → place.unsettled ≡ false
  walk_cut place [] e = e
  walk_cut place (row ∷ rows) e = onward_cut (place.rows ++ row ∷ []) (rest_of_all place.tasks) place.skipped place.unsettled (walk_cut (after_row s place row) rows e)

  pub uncut_before : (lines : List (Line O)) (rows more : List (Row M O)) → unsettled s lines (rows ++ more) ≡ false → unsettled s lines rows ≡ false
  uncut_before lines rows more e = walk_cut _ more (ap (λ (place : WalkPlace M O). place.unsettled) (sym (fold-append (after_row s) _ rows more)) ∙ e)
