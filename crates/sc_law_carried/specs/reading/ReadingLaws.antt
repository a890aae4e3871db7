-- Laws of what is read off rows.
use Rattle.std.specs.Prelude.{◌≡◌, ℕ, List, [], ◌∷◌, ◌++◌, true}
use Rattle.sc_node_table.specs.Values.{OrderLine, Mail, Row}
use Rattle.sc_actor.specs.Definitions.{IsStep}
use Rattle.sc_meaning.specs.sound.SoundDefinitions.{Ahead, system_of}
use Rattle.sc_scenario.specs.declared.scenario.scenarios.Scenario.{Scenario}
use Rattle.sc_law_groups.specs.whole.WholeDefinitions.{IsWellFormed}
use Rattle.sc_law_carried.specs.reading.ReadLines.{may_be_line, with_lines_of}
use Rattle.sc_law_carried.specs.reading.ReadRequests.{with_clients_of}
use Rattle.sc_law_carried.specs.reading.ReadScenarios.{IsLawfulRead}

-- no row is lawful with the schedule that is read off it
abbrev pub NoRowsAreLawful : Type 0
NoRowsAreLawful = (ahead : Ahead) (words : ℕ → ℕ → ℕ × ℕ) (scenario : Scenario) → IsLawfulRead ahead words scenario []

-- rows that are lawful with what is read off them stay so with a row that is a step and may be a line
abbrev pub StepsAreLawful : Type 0
StepsAreLawful = (ahead : Ahead) (words : ℕ → ℕ → ℕ × ℕ) (scenario : Scenario) (rows : List (Row Mail OrderLine)) (row : Row Mail OrderLine)
    → IsLawfulRead ahead words scenario rows → IsStep (system_of ahead words scenario) rows row → may_be_line scenario row.who row.event ≡ true → IsLawfulRead ahead words scenario (rows ++ row ∷ [])

-- and with no other row
pub record LastIsStep (ahead : Ahead) (words : ℕ → ℕ → ℕ × ℕ) (scenario : Scenario) (rows : List (Row Mail OrderLine)) (row : Row Mail OrderLine) : Type 0 where
  pub before : IsLawfulRead ahead words scenario rows
  pub step : IsStep (system_of ahead words scenario) rows row
  pub may : may_be_line scenario row.who row.event ≡ true

-- the last of rows that are lawful with what is read off them is a step and may be a line, and the rows before it are lawful with what is read off them
abbrev pub LawfulRowsAreSteps : Type 0
LawfulRowsAreSteps = (ahead : Ahead) (words : ℕ → ℕ → ℕ × ℕ) (scenario : Scenario) (rows : List (Row Mail OrderLine)) (row : Row Mail OrderLine)
    → IsLawfulRead ahead words scenario (rows ++ row ∷ []) → LastIsStep ahead words scenario rows row

-- a scenario that is well formed stays so with the clients, and then with the schedule, that are read off rows
pub record ReadScenariosAreWellFormed : Type 0 where
  pub clients : (scenario : Scenario) (rows : List (Row Mail OrderLine)) → IsWellFormed scenario → IsWellFormed (with_clients_of scenario rows)
  pub lines : (scenario : Scenario) (rows : List (Row Mail OrderLine)) → IsWellFormed scenario → IsWellFormed (with_lines_of scenario rows)
