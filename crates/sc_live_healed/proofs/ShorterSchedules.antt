-- A whole journal of a schedule has a prefix that is a whole journal of the first lines alone, in which no line was cut off where none was in the journal.
use Rattle.std.proofs.Common.{◌≡◌, ℕ, ◌+◌, List, [], ◌∷◌, ◌++◌, Bool, false, ◌||◌, refl, sym, ◌∙◌, ap, subst, append_assoc, inl, inr}
use Rattle.std.specs.List.{flat_map}
use Rattle.std.proofs.lemmas.Bool.{cases_Bool}
use Rattle.sc_actor.specs.declared.rows.Row.{Row}
use Rattle.sc_actor.specs.declared.schedules.Line.{Line}
use Rattle.sc_actor.specs.Definitions.{System, Task, IsLawful, IsWhole, is_over, cuts, skips, rest_of_task, tasks_of, unsettled}
use Rattle.sc_actor.proofs.Lemmas.{Stands, Stands-begin, Stands-row, Stands-over, Stands-whole}
use Rattle.sc_live_orderly.proofs.PassedTasks.{flat_append, more_rows, next_row}
use Rattle.sc_live_orderly.proofs.UncutPrefixes.{onward_cut, uncut_before}

module _ {A M O : Type 0} (s : System A M O) (first others : List (Line O)) (journal : List (Row M O)) (lawful : IsLawful s (first ++ others) journal) (whole : IsWhole s (first ++ others) journal) where
  abbrev all : List (Line O)
  all = first ++ others

  abbrev back : List (Task O)
  back = flat_map (tasks_of s.words) others

  -- The place of both walks where the first lines are passed.
  record Passed : Type 0 where
    rows : List (Row M O)
    more : List (Row M O)
    k : ℕ
    c : Bool
    journal_is : journal ≡ rows ++ more
    long : Stands s all rows back k c
    short : Stands s first rows [] k c

  abbrev Later : List (Row M O) → Type 0
  Later more = (rows : List (Row M O)) (tasks : List (Task O)) (k : ℕ) (c : Bool) → journal ≡ rows ++ more → Stands s all rows (tasks ++ back) k c → Stands s first rows tasks k c → Passed

  at_end : Later []
  at_end rows [] k c e long short = record { rows = rows; more = []; k = k; c = c; journal_is = e; long = long; short = short }
  at_end rows (task ∷ tasks) k c e long short = elim (cases_Bool (is_over s rows task)) [
    | inl over ↦ at_end rows tasks (k + skips task) (c || cuts s rows task) e (Stands-over s all rows task (tasks ++ back) k c long over) (Stands-over s first rows task tasks k c short over)
    | inr open_ ↦ absurd (more_rows s all journal lawful whole rows task (tasks ++ back) k c e long open_)
  ]

  module _ (row : Row M O) (more : List (Row M O)) (again : Later more) where
    at_row : Later (row ∷ more)
    at_row rows [] k c e long short = record { rows = rows; more = row ∷ more; k = k; c = c; journal_is = e; long = long; short = short }
    at_row rows (task ∷ tasks) k c e long short = elim (cases_Bool (is_over s rows task)) [
      | inl over ↦ at_row rows tasks (k + skips task) (c || cuts s rows task) e (Stands-over s all rows task (tasks ++ back) k c long over) (Stands-over s first rows task tasks k c short over)
      | inr open_ ↦ (let allowed = next_row s all journal lawful whole rows row more task (tasks ++ back) k c e long open_ in
          again (rows ++ row ∷ []) (rest_of_task task ++ tasks) k c (e ∙ sym (append_assoc rows (row ∷ []) more))
          (subst (λ ts. Stands s all (rows ++ row ∷ []) ts k c) (sym (append_assoc (rest_of_task task) tasks back)) (Stands-row s all rows task (tasks ++ back) k c row long open_ allowed))
          (Stands-row s first rows task tasks k c row short open_ allowed))
    ]

  passes : (more : List (Row M O)) → Later more
  passes [] = at_end
  passes (row ∷ more) = at_row row more (passes more)

  -- The prefix that the first lines make.
  pub record WholePrefix : Type 0 where
    pub rows : List (Row M O)
    pub more : List (Row M O)
    pub journal_is : journal ≡ rows ++ more
    pub lawful_first : IsLawful s first rows
    pub whole_first : IsWhole s first rows
    pub uncut : unsettled s first rows ≡ false
    pub k : ℕ
    pub c : Bool
    pub stands : Stands s (first ++ others) rows (flat_map (tasks_of s.words) others) k c

  part_of : Passed → unsettled s (first ++ others) journal ≡ false → WholePrefix
  part_of at quiet =
      let same : unsettled s all journal ≡ unsettled s all (at.rows ++ at.more) = ap (λ xs. unsettled s all xs) at.journal_is in
      let now : unsettled s all at.rows ≡ false = uncut_before s all at.rows at.more (sym same ∙ quiet) in
      let here : unsettled s all at.rows ≡ _ = ap (λ place. place.unsettled) at.long.place in
      let none = onward_cut s at.rows back at.k at.c (sym here ∙ now) in
      let end = Stands-whole s first at.rows at.k at.c at.short in
      record { rows = at.rows; more = at.more; journal_is = at.journal_is; lawful_first = at.short.lawful; whole_first = end.0; uncut = end.2 ∙ none; k = at.k; c = at.c; stands = at.long }

  pub whole_prefix : unsettled s (first ++ others) journal ≡ false → WholePrefix
  whole_prefix quiet =
      let begins : Stands s all [] (flat_map (tasks_of s.words) first ++ back) 0 false = subst (λ ts. Stands s all [] ts 0 false) (flat_append (tasks_of s.words) first others) (Stands-begin s all) in
      part_of (passes journal [] (flat_map (tasks_of s.words) first) 0 false refl begins (Stands-begin s first)) quiet
