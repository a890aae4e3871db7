-- A whole journal has passed each of its lines: what a line of one task brings about holds at its end.
use Rattle.std.proofs.Common.{◌≡◌, ℕ, ◌+◌, List, [], ◌∷◌, ◌++◌, Bool, true, false, ◌||◌, refl, sym, ◌∙◌, ap, subst, ◌⊎◌, inl, inr}
use Rattle.std.specs.List.{flat_map}
use Rattle.std.proofs.lemmas.Bool.{cond_both}
use Rattle.std.proofs.lemmas.List.Sums.{fold-append}
use Rattle.sc_base.specs.Definitions.{Among}
use Rattle.sc_actor.specs.declared.rows.Row.{Row}
use Rattle.sc_actor.specs.declared.schedules.Line.{Line}
use Rattle.sc_actor.specs.Definitions.{System, Task, Once, WalkPlace, MayAdd, IsLawful, IsWhole, onward, is_over, cuts, skips, after_row, place_after, rest_of_task, rest_of_all, tasks_of}
use Rattle.sc_actor.proofs.Lemmas.{lawful-last, place_after-rows}
use Rattle.sc_live_orderly.proofs.RowsOfSchedules.{by_rows}
use Rattle.sc_live_orderly.proofs.PassedLines.{among_right, among_tasks}

-- what a line brings about stays so, holds after its row, and where the walk is past its task
module _ {A M O : Type 0} (s : System A M O) (line : Line O) (once : tasks_of s.words line ≡ Once line ∷ []) (Holds : List (Row M O) → Type 0)
    (stays : (rows : List (Row M O)) (row : Row M O) → Holds rows → Holds (rows ++ row ∷ []))
    (done : (rows : List (Row M O)) (row : Row M O) (tasks : List (Task O)) → MayAdd s rows (Once line ∷ tasks) row → Holds (rows ++ row ∷ []))
    (lines : List (Line O)) (over : (rows : List (Row M O)) → IsLawful s lines rows → is_over s rows (Once line) ≡ true → Holds rows) where
  -- it holds, or the line is still to come
  abbrev IsDue : List (Row M O) → List (Task O) → Type 0
  IsDue rows tasks = Holds rows ⊎ Among (Once line) tasks

  onward_due : (rows : List (Row M O)) → IsLawful s lines rows → (tasks : List (Task O)) (skipped : ℕ) (cut : Bool) → IsDue rows tasks → IsDue rows (onward s rows tasks skipped cut).tasks
  onward_due rows lawful [] skipped cut due = due
  onward_due rows lawful (task ∷ tasks) skipped cut due =
      cond_both (is_over s rows task) _ _ (λ (p : WalkPlace M O). IsDue rows p.tasks) (λ gone. onward_due rows lawful tasks (skipped + skips task) (cut || cuts s rows task) (past gone due)) (λ _. due)
    where
      past : is_over s rows task ≡ true → IsDue rows (task ∷ tasks) → IsDue rows tasks
      past gone (inl held) = inl held
      past gone (inr (inl same)) = inl (over rows lawful (ap (is_over s rows) (sym same) ∙ gone))
      past gone (inr (inr a)) = inr a

  -- one more row, and what is left of the tasks
  rest_due : (rows : List (Row M O)) (row : Row M O) (tasks : List (Task O)) → MayAdd s rows tasks row → IsDue rows tasks → IsDue (rows ++ row ∷ []) (rest_of_all tasks)
  rest_due rows row tasks may (inl held) = inl (stays rows row held)
  rest_due rows row [] may (inr a) = absurd a
  rest_due rows row (task ∷ tasks) may (inr (inl same)) = inl (done rows row tasks (subst (λ (x : Task O). MayAdd s rows (x ∷ tasks) row) same may))
  rest_due rows row (task ∷ tasks) may (inr (inr a)) = inr (among_right s.words line once (rest_of_task task) tasks a)

  row_due : (rows : List (Row M O)) (row : Row M O) → IsLawful s lines (rows ++ row ∷ []) → IsDue rows (place_after s lines rows).tasks → IsDue (rows ++ row ∷ []) (place_after s lines (rows ++ row ∷ [])).tasks
  row_due rows row lawful due =
      let place = place_after s lines rows in
      let step : place_after s lines (rows ++ row ∷ []) ≡ after_row s place row = fold-append (after_row s) _ rows (row ∷ []) in
      let there : place.rows ≡ rows = place_after-rows s lines rows in
      let next = onward_due (rows ++ row ∷ []) lawful (rest_of_all place.tasks) place.skipped place.unsettled (rest_due rows row place.tasks (lawful-last s lines rows row lawful) due) in
      subst (λ (p : WalkPlace M O). IsDue (rows ++ row ∷ []) p.tasks) (sym (step ∙ ap (λ xs. onward s (xs ++ row ∷ []) (rest_of_all place.tasks) place.skipped place.unsettled) there)) next

  -- at the end of a whole journal it holds
  pub holds_when_whole : Among line lines → (journal : List (Row M O)) → IsLawful s lines journal → IsWhole s lines journal → Holds journal
  holds_when_whole among journal lawful whole =
      elim (by_rows s lines (λ rows. IsDue rows (place_after s lines rows).tasks) (onward_due [] tt (flat_map (tasks_of s.words) lines) 0 false (inr (among_tasks s.words line once lines among))) row_due journal lawful) [
        | inl held ↦ held
        | inr ahead ↦ absurd (subst (λ (tasks : List (Task O)). Among (Once line) tasks) whole ahead)
      ]
