-- Rows that are lawful with what is read off them.
use Rattle.std.specs.Prelude.{ℕ, ◌-◌, ◌≤◌, List, length, take}
use Rattle.sc_node_table.specs.Values.{OrderLine, Mail, Row}
use Rattle.sc_meaning.specs.sound.SoundDefinitions.{Ahead, Lawful}
use Rattle.sc_scenario.specs.declared.scenario.scenarios.Scenario.{Scenario}
use Rattle.sc_law_carried.specs.reading.ReadLines.{with_lines_of}

-- rows are lawful with the schedule that is read off them
abbrev pub IsLawfulRead : Ahead → (ℕ → ℕ → ℕ × ℕ) → Scenario → List (Row Mail OrderLine) → Type 0
IsLawfulRead ahead words scenario rows = Lawful ahead words (with_lines_of scenario rows) rows

-- the row at the place `at`, from 1, is the first that is not lawful: the rows before it are lawful with the schedule that is read off them, and with it they are not
pub record IsFirstUnlawful (ahead : Ahead) (words : ℕ → ℕ → ℕ × ℕ) (scenario : Scenario) (rows : List (Row Mail OrderLine)) (at : ℕ) : Type 0 where
  pub first : 1 ≤ at
  pub within : at ≤ length rows
  pub before : IsLawfulRead ahead words scenario (take (at - 1) rows)
  pub not_with : IsLawfulRead ahead words scenario (take at rows) → ⊥
