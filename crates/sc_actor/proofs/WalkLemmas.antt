-- How a walk goes on.
use Rattle.std.proofs.Common.{◌≡◌, ℕ, ◌+◌, List, [], ◌∷◌, ◌++◌, Bool, true, false, ◌||◌, refl, sym, ◌∙◌, ap, subst, fold, append-nil, append_assoc}
use Rattle.std.specs.List.{flat_map}
use Rattle.std.proofs.lemmas.Bool.{cond_both}
use Rattle.std.proofs.lemmas.List.Sums.{fold-append}
use Rattle.sc_actor.specs.declared.rows.Row.{Row}
use Rattle.sc_actor.specs.declared.schedules.Line.{Line}
use Rattle.sc_actor.specs.Definitions.{System, Task, WalkPlace, Allows, MayAdd, IsWalk, IsLawful, IsWhole, IsNext, is_over, skips, cuts, rest_of_task, rest_of_all, onward, start, tasks_of, after_row, place_after, skipped, unsettled}

module _ {A M O : Type 0} (s : System A M O) where
  -- a walk goes on by a row that it may add
  pub IsWalk-snoc : (place : WalkPlace M O) (rows : List (Row M O)) (row : Row M O) → IsWalk s place rows → MayAdd s (fold (after_row s) place rows).rows (fold (after_row s) place rows).tasks row → IsWalk s place (rows ++ row ∷ [])
  IsWalk-snoc place [] row walk may = (may, tt)
  IsWalk-snoc place (r ∷ rows) row walk may = (walk.0, IsWalk-snoc (after_row s place r) rows row walk.1 may)

  -- a walk of two parts is a walk of the first, and then one of the second
  pub IsWalk-first : (place : WalkPlace M O) (xs ys : List (Row M O)) → IsWalk s place (xs ++ ys) → IsWalk s place xs
  IsWalk-first place [] ys walk = tt
  IsWalk-first place (x ∷ xs) ys walk = (walk.0, IsWalk-first (after_row s place x) xs ys walk.1)

  pub IsWalk-second : (place : WalkPlace M O) (xs ys : List (Row M O)) → IsWalk s place (xs ++ ys) → IsWalk s (fold (after_row s) place xs) ys
  IsWalk-second place [] ys walk = walk
  IsWalk-second place (x ∷ xs) ys walk = IsWalk-second (after_row s place x) xs ys walk.1

  -- passing tasks changes no row
  pub onward-rows : (rows : List (Row M O)) (tasks : List (Task O)) (skips_ : ℕ) (cut : Bool) → (onward s rows tasks skips_ cut).rows ≡ rows
  onward-rows rows [] skips_ cut = refl
  onward-rows rows (task ∷ tasks) skips_ cut =
      cond_both (is_over s rows task) (onward s rows tasks (skips_ + skips task) (cut || cuts s rows task)) (record { tasks = task ∷ tasks; rows = rows; skipped = skips_; unsettled = cut }) (λ p. p.rows ≡ rows)
      (λ _. onward-rows rows tasks (skips_ + skips task) (cut || cuts s rows task)) (λ _. refl)

  pub onward-over : (rows : List (Row M O)) (task : Task O) (tasks : List (Task O)) (skips_ : ℕ) (cut : Bool) → is_over s rows task ≡ true → onward s rows (task ∷ tasks) skips_ cut ≡ onward s rows tasks (skips_ + skips task) (cut || cuts s rows task)
  onward-over rows task tasks skips_ cut over = rw over refl

  pub onward-open : (rows : List (Row M O)) (task : Task O) (tasks : List (Task O)) (skips_ : ℕ) (cut : Bool) → is_over s rows task ≡ false → onward s rows (task ∷ tasks) skips_ cut ≡ record { tasks = task ∷ tasks; rows = rows; skipped = skips_; unsettled = cut }
  onward-open rows task tasks skips_ cut open_ = rw open_ refl

  -- the walk keeps the rows that it was given
  pub walk-rows : (place : WalkPlace M O) (rows : List (Row M O)) → (fold (after_row s) place rows).rows ≡ place.rows ++ rows
  walk-rows place [] = sym (append-nil place.rows)
  walk-rows place (row ∷ rows) =
      walk-rows (after_row s place row) rows
      ∙ ap (λ xs. xs ++ rows) (onward-rows (place.rows ++ row ∷ []) (rest_of_all place.tasks) place.skipped place.unsettled)
      ∙ append_assoc place.rows (row ∷ []) rows

-- A journal is lawful, and the walk after it is where these tasks and counts are left.
pub record Stands {A M O : Type 0} (s : System A M O) (lines : List (Line O)) (journal : List (Row M O)) (tasks : List (Task O)) (skips_ : ℕ) (cut : Bool) : Type 0 where
  pub lawful : IsLawful s lines journal
  pub place : place_after s lines journal ≡ onward s journal tasks skips_ cut

module _ {A M O : Type 0} (s : System A M O) (lines : List (Line O)) where
  -- where the walk begins
  pub Stands-begin : Stands s lines [] (flat_map (tasks_of s.words) lines) 0 false
  Stands-begin = record { lawful = tt; place = refl }

  -- past a task that makes no row any more
  pub Stands-over : (journal : List (Row M O)) (task : Task O) (tasks : List (Task O)) (skips_ : ℕ) (cut : Bool) → Stands s lines journal (task ∷ tasks) skips_ cut → is_over s journal task ≡ true → Stands s lines journal tasks (skips_ + skips task) (cut || cuts s journal task)
  Stands-over journal task tasks skips_ cut stands over =
      record { lawful = stands.lawful; place = stands.place ∙ onward-over s journal task tasks skips_ cut over }

  -- the walk stands before a task that is not over
  pub Stands-at : (journal : List (Row M O)) (task : Task O) (tasks : List (Task O)) (skips_ : ℕ) (cut : Bool) → Stands s lines journal (task ∷ tasks) skips_ cut → is_over s journal task ≡ false →
      place_after s lines journal ≡ record { tasks = task ∷ tasks; rows = journal; skipped = skips_; unsettled = cut }
  Stands-at journal task tasks skips_ cut stands open_ = stands.place ∙ onward-open s journal task tasks skips_ cut open_

  -- a row that the first task allows may come next
  pub Stands-next : (journal : List (Row M O)) (task : Task O) (tasks : List (Task O)) (skips_ : ℕ) (cut : Bool) (row : Row M O) → Stands s lines journal (task ∷ tasks) skips_ cut → is_over s journal task ≡ false → Allows s journal task row → IsNext s lines journal row
  Stands-next journal task tasks skips_ cut row stands open_ allows =
      subst (λ p. MayAdd s journal p.tasks row) (sym (Stands-at journal task tasks skips_ cut stands open_)) allows

  -- and the only rows that may come next are those that it allows
  pub Stands-allows : (journal : List (Row M O)) (task : Task O) (tasks : List (Task O)) (skips_ : ℕ) (cut : Bool) (row : Row M O) → Stands s lines journal (task ∷ tasks) skips_ cut → is_over s journal task ≡ false → IsNext s lines journal row → Allows s journal task row
  Stands-allows journal task tasks skips_ cut row stands open_ next =
      subst (λ p. MayAdd s journal p.tasks row) (Stands-at journal task tasks skips_ cut stands open_) next

  -- the walk after one more row of the first task
  pub Stands-row : (journal : List (Row M O)) (task : Task O) (tasks : List (Task O)) (skips_ : ℕ) (cut : Bool) (row : Row M O) → Stands s lines journal (task ∷ tasks) skips_ cut → is_over s journal task ≡ false → Allows s journal task row → Stands s lines (journal ++ row ∷ []) (rest_of_task task ++ tasks) skips_ cut
  Stands-row journal task tasks skips_ cut row stands open_ allows =
      let at = Stands-at journal task tasks skips_ cut stands open_ in
      record {
        lawful = IsWalk-snoc s (start s lines) journal row stands.lawful (subst (λ p. MayAdd s p.rows p.tasks row) (sym at) allows);
        place = fold-append (after_row s) (start s lines) journal (row ∷ []) ∙ ap (λ p. after_row s p row) at;
      }

  -- past the last task the journal is whole
  pub Stands-whole : (journal : List (Row M O)) (skips_ : ℕ) (cut : Bool) → Stands s lines journal [] skips_ cut → IsWhole s lines journal × (skipped s lines journal ≡ skips_) × (unsettled s lines journal ≡ cut)
  Stands-whole journal skips_ cut stands = (ap (λ p. p.tasks) stands.place, ap (λ p. p.skipped) stands.place, ap (λ p. p.unsettled) stands.place)

  -- no row comes after a walk whose tasks are done
  pub Stands-ended : (journal : List (Row M O)) (skips_ : ℕ) (cut : Bool) (row : Row M O) → Stands s lines journal [] skips_ cut → IsNext s lines journal row → ⊥
  Stands-ended journal skips_ cut row stands next = subst (λ p. MayAdd s journal p.tasks row) stands.place next

  -- the rows of the walk after a journal are the journal
  pub place_after-rows : (journal : List (Row M O)) → (place_after s lines journal).rows ≡ journal
  place_after-rows journal = walk-rows s (start s lines) journal ∙ ap (λ xs. xs ++ journal) (onward-rows s [] (flat_map (tasks_of s.words) lines) 0 false)

  -- a lawful journal goes on by each row that may come next, and by no other
  pub lawful-snoc : (journal : List (Row M O)) (row : Row M O) → IsLawful s lines journal → IsNext s lines journal row → IsLawful s lines (journal ++ row ∷ [])
  lawful-snoc journal row lawful next =
      IsWalk-snoc s (start s lines) journal row lawful (subst (λ xs. MayAdd s xs (place_after s lines journal).tasks row) (sym (place_after-rows journal)) next)

  -- a prefix of a lawful journal is lawful
  pub lawful-prefix : (xs ys : List (Row M O)) → IsLawful s lines (xs ++ ys) → IsLawful s lines xs
  lawful-prefix xs ys lawful = IsWalk-first s (start s lines) xs ys lawful

  -- the last row of a lawful journal may come next after the others
  pub lawful-last : (journal : List (Row M O)) (row : Row M O) → IsLawful s lines (journal ++ row ∷ []) → IsNext s lines journal row
  lawful-last journal row lawful =
      subst (λ xs. MayAdd s xs (place_after s lines journal).tasks row) (place_after-rows journal) (IsWalk-second s (start s lines) journal (row ∷ []) lawful).0
