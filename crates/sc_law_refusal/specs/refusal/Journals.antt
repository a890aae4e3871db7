-- What every lawful journal of a valid scenario says of refusals.
use Rattle.std.specs.Prelude.{◌≡◌, ℕ, ◌∷◌, ◌++◌}
use Rattle.sc_base.specs.Definitions.{Among}
use Rattle.sc_node_table.specs.Values.{Seat, Row, OrderLine, Mail, Node}
use Rattle.sc_actor.specs.Definitions.{value}
use Rattle.sc_node_table.specs.NodeDefinitions.{NodeState, slots_ahead}
use Rattle.sc_scenario.specs.scenario.Definitions.{IsValid}
use Rattle.sc_scenario.specs.declared.scenario.scenarios.Scenario.{Scenario}
use Rattle.sc_meaning.specs.sound.SoundDefinitions.{Ahead, Lawful, Player, births, player_table}
use Rattle.sc_law_refusal.specs.queue.OneCall.{EachKeepsOneCall}
use Rattle.sc_law_refusal.specs.patience.Patience.{GivesUpInTime}
use Rattle.sc_law_refusal.specs.refusal.RowCauses.{Rows, RowHasCauses}
use Rattle.sc_law_refusal.specs.results.ReportedResults.{ReportsWhatHappened}

-- Each row of a journal has causes and reports what happened, and after each prefix of it a queue has at most one request of a client, and coordinators have given up in time.
pub record RefusesWithCause (ahead : Ahead) (scenario : Scenario) (journal : Rows) : Type 0 where
  pub rows : (before : Rows) (row : Row Mail OrderLine) (later : Rows) → journal ≡ before ++ row ∷ later → RowHasCauses ahead scenario before row
  pub queues : (before later : Rows) → journal ≡ before ++ later → (seat : Seat Player) → Among seat (births ahead scenario) → (node : NodeState) → value player_table seat before ≡ Node node → EachKeepsOneCall node
  pub given_up : (before later : Rows) → journal ≡ before ++ later → GivesUpInTime ahead scenario before
  pub reported : (before : Rows) (row : Row Mail OrderLine) (later : Rows) → journal ≡ before ++ row ∷ later → ReportsWhatHappened ahead scenario before row

-- every lawful journal of a valid scenario refuses with cause, where as many slots are open as a created child has
abbrev pub ValidJournalsRefuseWithCause : Type 0
ValidJournalsRefuseWithCause = (ahead : Ahead) → ahead.slots ≡ slots_ahead → (words : ℕ → ℕ → ℕ × ℕ) (scenario : Scenario) → IsValid scenario
    → (journal : Rows) → Lawful ahead words scenario journal → RefusesWithCause ahead scenario journal
