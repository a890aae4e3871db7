-- Rows are lawful with the schedule that is read off them exactly where each is a step that some line may make.
use Rattle.std.proofs.Common.{◌≡◌, ℕ, ◌≤◌, List, [], ◌∷◌, ◌++◌, length, map, Bool, true, false, cond, refl, sym, ◌∙◌, subst, arith, append_assoc, append-nil}
use Rattle.sc_base.specs.Definitions.{Each}
use Rattle.sc_node_table.specs.Values.{OrderLine, Mail, Row}
use Rattle.sc_actor.specs.Definitions.{System, IsLawful, IsStep, place_after}
use Rattle.sc_actor.proofs.Lemmas.{lawful-prefix, lawful-last, MayAdd-step}
use Rattle.sc_scenario.specs.declared.scenario.scenarios.Scenario.{Scenario}
use Rattle.sc_scenario.specs.declared.scenario.scenarios.SchedLine.{SchedLine}
use Rattle.sc_meaning.specs.sound.SoundDefinitions.{Ahead, Player, line_of, system_of}
use Rattle.sc_law_carried.specs.reading.ReadingDefinitions.{actors_of, line_at, lines_from, may_be_line, IsLawfulRead, NoRowsAreLawful, StepsAreLawful, LawfulRowsAreSteps}
use Rattle.sc_law_carried.proofs.ReadingProofs.LinesMakeRows.{IsOfOneRow, LinesMake, made_are_lawful, no_more_rows}
use Rattle.sc_law_carried.proofs.ReadingProofs.StepLines.{of_one_row, step_line}

abbrev Rows : Type 0
Rows = List (Row Mail OrderLine)

-- whether some line may make a row
abbrev may : Scenario → Row Mail OrderLine → Bool
may scenario row = may_be_line scenario row.who row.event

-- the line of a row after these rows
abbrev line_read : Scenario → Rows → Row Mail OrderLine → SchedLine
line_read scenario before row = line_at (actors_of scenario) before row.who row.event

-- each of the lines makes at most one row
all_of_one : (scenario : Scenario) (before rows : Rows) → Each IsOfOneRow (map line_of (lines_from scenario before rows))
all_of_one scenario before [] = tt
all_of_one scenario before (row ∷ rows) = by (may scenario row) (all_of_one scenario (before ++ row ∷ []) rows)
  where
    by : (b : Bool) → Each IsOfOneRow (map line_of (lines_from scenario (before ++ row ∷ []) rows)) → Each IsOfOneRow (map line_of (cond b (line_read scenario before row ∷ []) [] ++ lines_from scenario (before ++ row ∷ []) rows))
    by true more = (of_one_row (actors_of scenario) before row.who row.event, more)
    by false more = more

-- they are no more than the rows
lines_within : (scenario : Scenario) (before rows : Rows) → length (map line_of (lines_from scenario before rows)) ≤ length rows
lines_within scenario before [] = omega arith
lines_within scenario before (row ∷ rows) = by (may scenario row) (lines_within scenario (before ++ row ∷ []) rows)
  where
    by : (b : Bool) → length (map line_of (lines_from scenario (before ++ row ∷ []) rows)) ≤ length rows → length (map line_of (cond b (line_read scenario before row ∷ []) [] ++ lines_from scenario (before ++ row ∷ []) rows)) ≤ length (row ∷ rows)
    by true less = omega (arith, less)
    by false less = omega (arith, less)

-- where they are as many, each row may be made by a line
all_may : (scenario : Scenario) (before rows : Rows) → length rows ≤ length (map line_of (lines_from scenario before rows)) → Each (λ row. may scenario row ≡ true) rows
all_may scenario before [] enough = tt
all_may scenario before (row ∷ rows) enough = by (may scenario row) refl (λ more. all_may scenario (before ++ row ∷ []) rows more) enough
  where
    by : (b : Bool) → may scenario row ≡ b → (length rows ≤ length (map line_of (lines_from scenario (before ++ row ∷ []) rows)) → Each (λ r. may scenario r ≡ true) rows) → length (row ∷ rows) ≤ length (map line_of (cond b (line_read scenario before row ∷ []) [] ++ lines_from scenario (before ++ row ∷ []) rows)) → (may scenario row ≡ true) × Each (λ r. may scenario r ≡ true) rows
    by true t more enough = (t, more (omega (arith, enough)))
    by false f more enough = let less = lines_within scenario (before ++ row ∷ []) rows in absurd (omega (arith, enough, less))

module _ (ahead : Ahead) (words : ℕ → ℕ → ℕ × ℕ) (scenario : Scenario) where
  abbrev s : System Player Mail OrderLine
  s = system_of ahead words scenario

  -- each row is a step after those before it, and some line may make it
  abbrev Reads : Rows → Rows → Type 0
  Reads before [] = Unit {0}
  Reads before (row ∷ rows) = IsStep s before row × (may scenario row ≡ true) × Reads (before ++ row ∷ []) rows

  make : (before rows : Rows) → Reads before rows → LinesMake s before (map line_of (lines_from scenario before rows)) rows
  make before [] reads = tt
  make before (row ∷ rows) reads =
      let more = make (before ++ row ∷ []) rows reads.2 in
      let here = step_line ahead words scenario before row reads.0 reads.1 in
      subst (λ b. LinesMake s before (map line_of (cond b (line_read scenario before row ∷ []) [] ++ lines_from scenario (before ++ row ∷ []) rows)) (row ∷ rows)) (sym reads.1) (here, more)

  -- such rows are lawful with what is read off them
  lawful_by : (rows : Rows) → Reads [] rows → IsLawfulRead ahead words scenario rows
  lawful_by rows reads = made_are_lawful s (map line_of (lines_from scenario [] rows)) rows (all_of_one scenario [] rows) (make [] rows reads)

  -- rows of a lawful journal are steps
  steps_from : (all before rows : Rows) (sched : List SchedLine) → all ≡ before ++ rows → IsLawful s (map line_of sched) all → Each (λ row. may scenario row ≡ true) rows → Reads before rows
  steps_from all before [] sched is lawful mays = tt
  steps_from all before (row ∷ rows) sched is lawful mays =
      let split : all ≡ (before ++ row ∷ []) ++ rows = is ∙ sym (append_assoc before (row ∷ []) rows) in
      let until : IsLawful s (map line_of sched) (before ++ row ∷ []) = lawful-prefix s (map line_of sched) (before ++ row ∷ []) rows (subst (IsLawful s (map line_of sched)) split lawful) in
      let next = lawful-last s (map line_of sched) before row until in (
        MayAdd-step s before (place_after s (map line_of sched) before).tasks row next,
        mays.0,
        steps_from all (before ++ row ∷ []) rows sched split lawful mays.1,
      )

  reads_of : (rows : Rows) → IsLawfulRead ahead words scenario rows → Reads [] rows
  reads_of rows lawful =
      let sched = lines_from scenario [] rows in
      let enough = no_more_rows s (map line_of sched) rows (all_of_one scenario [] rows) lawful in
      steps_from rows [] rows sched refl lawful (all_may scenario [] rows enough)

  -- one row more
  reads_snoc : (before rows : Rows) (row : Row Mail OrderLine) → Reads before rows → IsStep s (before ++ rows) row → may scenario row ≡ true → Reads before (rows ++ row ∷ [])
  reads_snoc before [] row reads step m = (subst (λ xs. IsStep s xs row) (append-nil before) step, m, tt)
  reads_snoc before (r ∷ rows) row reads step m =
      (reads.0, reads.1, reads_snoc (before ++ r ∷ []) rows row reads.2 (subst (λ xs. IsStep s xs row) (sym (append_assoc before (r ∷ []) rows)) step) m)

  -- one row less
  reads_last : (before rows : Rows) (row : Row Mail OrderLine) → Reads before (rows ++ row ∷ []) → Reads before rows × IsStep s (before ++ rows) row × (may scenario row ≡ true)
  reads_last before [] row reads = (tt, subst (λ xs. IsStep s xs row) (sym (append-nil before)) reads.0, reads.1)
  reads_last before (r ∷ rows) row reads =
      let more = reads_last (before ++ r ∷ []) rows row reads.2 in
      ((reads.0, reads.1, more.0), subst (λ xs. IsStep s xs row) (append_assoc before (r ∷ []) rows) more.1, more.2)

-- ---- the laws

pub no_rows_are_lawful : NoRowsAreLawful
no_rows_are_lawful ahead words scenario = tt

pub steps_are_lawful : StepsAreLawful
steps_are_lawful ahead words scenario rows row lawful step m =
    lawful_by ahead words scenario (rows ++ row ∷ []) (reads_snoc ahead words scenario [] rows row (reads_of ahead words scenario rows lawful) step m)

pub lawful_rows_are_steps : LawfulRowsAreSteps
lawful_rows_are_steps ahead words scenario rows row lawful =
    let last = reads_last ahead words scenario [] rows row (reads_of ahead words scenario (rows ++ row ∷ []) lawful) in
    record { before = lawful_by ahead words scenario rows last.0; step = last.1; may = last.2 }
