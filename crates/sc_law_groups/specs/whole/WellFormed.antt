-- Scenarios that are well formed, with any number of requests and lines.
use Rattle.std.specs.Prelude.{◌≡◌, ℕ, ◌<◌, ◌≤◌, List, length, All}
use Rattle.std.specs.List.{AllPairs}
use Rattle.sc_base.specs.Definitions.{most_nodes, most_clients}
use Rattle.sc_node_table.specs.NodeDefinitions.{slots_ahead}
use Rattle.sc_meaning.specs.sound.SoundDefinitions.{Ahead, Lawful, IsSoundThroughout}
use Rattle.sc_scenario.specs.scenario.Definitions.{bases_of, IsBounded, IsBoundedGroup, IsBoundedOrder, IsUpTo}
use Rattle.sc_scenario.specs.declared.scenario.drafts.GroupLine.{GroupLine}
use Rattle.sc_scenario.specs.declared.scenario.scenarios.Asks.{Asks}
use Rattle.sc_scenario.specs.declared.scenario.scenarios.Scenario.{Scenario}
use Rattle.sc_scenario.specs.declared.scenario.scenarios.SchedLine.{SchedLine}
use Rattle.sc_scenario.specs.declared.scenario.scenarios.SchedLine.TheVariants.{Go, Deliver, Drop, Again, Tick, Crash, Told, Settle, Free, Storm}
use Rattle.sc_law_entries.specs.logs.LogDefinitions.{Rows}

-- a line that gives an order gives it to a node that exists, and the order names a node that exists and a position of the ring, and has a number from 1 on; nothing is asked of other lines
abbrev pub GivesBoundedOrder : ℕ → SchedLine → Type 0
GivesBoundedOrder nodes (Told node line) = IsUpTo nodes node × IsBoundedOrder nodes line.order × (1 ≤ line.number)
GivesBoundedOrder nodes (Go client) = Unit {0}
GivesBoundedOrder nodes (Deliver who k) = Unit {0}
GivesBoundedOrder nodes (Drop who k) = Unit {0}
GivesBoundedOrder nodes (Again mail) = Unit {0}
GivesBoundedOrder nodes (Tick who) = Unit {0}
GivesBoundedOrder nodes (Crash node) = Unit {0}
GivesBoundedOrder nodes (Settle most) = Unit {0}
GivesBoundedOrder nodes (Free most workers) = Unit {0}
GivesBoundedOrder nodes (Storm number most) = Unit {0}

-- a scenario is well formed: it has 1 to 32 nodes, one or more groups of some of them in the order in which they begin, clients with different numbers from 1 to 64, ascending, and orders within bounds; it may have any number of requests and of lines
pub record IsWellFormed (scenario : Scenario) : Type 0 where
  pub starts : List GroupLine
  pub nodes : IsUpTo most_nodes scenario.nodes
  pub some : 1 ≤ length starts
  pub each : All (IsBoundedGroup scenario.nodes) starts
  pub rising : AllPairs (λ (one other : GroupLine). one.lo < other.lo) starts
  pub groups : scenario.groups ≡ bases_of starts
  pub clients : All (λ (asks : Asks). IsUpTo most_clients asks.client) scenario.clients
  pub ascending : AllPairs (λ (one other : Asks). one.client < other.client) scenario.clients
  pub orders : All (GivesBoundedOrder scenario.nodes) scenario.lines

-- each scenario within its bounds is well formed
abbrev pub BoundedScenariosAreWellFormed : Type 0
BoundedScenariosAreWellFormed = (scenario : Scenario) → IsBounded scenario → IsWellFormed scenario

-- each prefix of a lawful journal of a well formed scenario is sound, whatever its orders are and whatever words storms draw, where as many slots are open as a created child has
abbrev pub WellFormedJournalsAreSound : Type 0
WellFormedJournalsAreSound = (ahead : Ahead) → ahead.slots ≡ slots_ahead → (words : ℕ → ℕ → ℕ × ℕ) (scenario : Scenario) → IsWellFormed scenario
    → (journal : Rows) → Lawful ahead words scenario journal → IsSoundThroughout ahead scenario journal
