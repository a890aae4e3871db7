-- Scenarios that the parser accepts or `make` generates.
use Rattle.std.specs.Prelude.{◌≡◌, ◌<◌, ◌≤◌, ℕ, ◌+◌, ◌^◌, true, List, Some, length, take, All, ◌⊎◌}
use Rattle.std.specs.List.{AllPairs}
use Rattle.sc_base.specs.Definitions.{IsRoster, Each, longest_key, longest_value, most_nodes, most_clients, most_requests, client_actor}
use Rattle.sc_words.specs.declared.commands.orders.Order.{Order}
use Rattle.sc_words.specs.declared.commands.orders.Order.TheVariants.{Join, Leave, Split, Merge, Repart, Migrate}
use Rattle.sc_scenario.specs.scenario.Groups.{bases_of}
use Rattle.sc_base.specs.declared.ops.Op.{Op}
use Rattle.sc_base.specs.declared.ops.Op.TheVariants.{Get, Put, Del, Add, Cas}
use Rattle.sc_scenario.specs.scenario.Schedules.{is_client, most_mails, most_deliveries, most_workers, last_storm}
use Rattle.sc_texts.specs.lines.Definitions.{most_bytes}
use Rattle.sc_scenario.specs.scenario.Taking.{most_groups}
use Rattle.sc_scenario.specs.scenario.Grammar.{verdict_of, scenario_of}
use Rattle.sc_scenario.specs.scenario.Made.{IsMade}
use Rattle.sc_scenario.specs.declared.scenario.drafts.GroupLine.{GroupLine}
use Rattle.sc_scenario.specs.declared.scenario.scenarios.Asks.{Asks}
use Rattle.sc_scenario.specs.declared.scenario.scenarios.Scenario.{Scenario}
use Rattle.sc_scenario.specs.declared.scenario.scenarios.SchedLine.{SchedLine}
use Rattle.sc_scenario.specs.declared.scenario.scenarios.SchedLine.TheVariants.{Go, Deliver, Drop, Again, Tick, Crash, Told, Settle, Free, Storm}

-- the parser reads this scenario from some text
pub record IsWritten (scenario : Scenario) : Type 0 where
  pub text : List ℕ
  pub read : scenario_of text ≡ Some scenario

-- a scenario is valid: the parser accepts it from some text, or it is made
abbrev pub IsValid : Scenario → Type 0
IsValid scenario = IsWritten scenario ⊎ IsMade scenario

-- a number is from 1 to `most`
abbrev pub IsUpTo : ℕ → ℕ → Type 0
IsUpTo most n = (1 ≤ n) × (n ≤ most)

-- a number is that of a node, or of a client with a section
abbrev pub IsActor : ℕ → List Asks → ℕ → Type 0
IsActor nodes clients who = IsUpTo nodes who ⊎ ((client : ℕ) × (who ≡ client_actor client) × (is_client clients client ≡ true))

-- an order names a node that exists, and a position of the ring
abbrev pub IsBoundedOrder : ℕ → Order → Type 0
IsBoundedOrder nodes (Join node group) = IsUpTo nodes node
IsBoundedOrder nodes (Leave node group) = IsUpTo nodes node
IsBoundedOrder nodes (Split group at) = at < 2 ^ 32
IsBoundedOrder nodes (Merge group) = Unit {0}
IsBoundedOrder nodes (Repart group at) = at < 2 ^ 32
IsBoundedOrder nodes (Migrate group node) = IsUpTo nodes node

-- a line of the schedule names actors that exist, its numbers are within their bounds, and an order has a number from 1 on
abbrev pub IsBoundedLine : ℕ → List Asks → SchedLine → Type 0
IsBoundedLine nodes clients (Go client) = is_client clients client ≡ true
IsBoundedLine nodes clients (Deliver who k) = IsActor nodes clients who × IsUpTo most_mails k
IsBoundedLine nodes clients (Drop who k) = IsActor nodes clients who × IsUpTo most_mails k
IsBoundedLine nodes clients (Again mail) = IsUpTo most_mails mail
IsBoundedLine nodes clients (Tick who) = IsActor nodes clients who
IsBoundedLine nodes clients (Crash node) = IsUpTo nodes node
IsBoundedLine nodes clients (Told node line) = IsUpTo nodes node × IsBoundedOrder nodes line.order × (1 ≤ line.number)
IsBoundedLine nodes clients (Settle most) = IsUpTo most_deliveries most
IsBoundedLine nodes clients (Free most workers) = IsUpTo most_deliveries most × IsUpTo most_workers workers
IsBoundedLine nodes clients (Storm number most) = (number ≤ last_storm) × IsUpTo most_deliveries most

-- the key and each value of an operation are no longer than they may be
abbrev pub IsShortOp : Op → Type 0
IsShortOp (Get key) = length key ≤ longest_key
IsShortOp (Put key value) = (length key ≤ longest_key) × (length value ≤ longest_value)
IsShortOp (Del key) = length key ≤ longest_key
IsShortOp (Add key value) = (length key ≤ longest_key) × (length value ≤ longest_value)
IsShortOp (Cas key expect value) = (length key ≤ longest_key) × (length expect ≤ longest_value) × (length value ≤ longest_value)

-- a client's number and the number of its requests are within their bounds, and its requests are short
abbrev pub IsBoundedClient : Asks → Type 0
IsBoundedClient asks = IsUpTo most_clients asks.client × (length asks.ops ≤ most_requests) × Each IsShortOp asks.ops

-- a group begins at a position of the ring, and has one to nine nodes that exist
pub record IsBoundedGroup (nodes : ℕ) (line : GroupLine) : Type 0 where
  pub lo_in : line.lo < 2 ^ 32
  pub roster : IsRoster line.members
  pub members_in : All (IsUpTo nodes) line.members

-- a scenario is within its bounds: it has 1 to 32 nodes, one to sixteen groups of some of them in the order in which they begin, clients in the order of their numbers, a schedule that names these, and version 1 or 2
pub record IsBounded (scenario : Scenario) : Type 0 where
  pub starts : List GroupLine
  pub nodes : IsUpTo most_nodes scenario.nodes
  pub some : 1 ≤ length starts
  pub few : length starts ≤ most_groups
  pub each : All (IsBoundedGroup scenario.nodes) starts
  pub rising : AllPairs (λ (one other : GroupLine). one.lo < other.lo) starts
  pub groups : scenario.groups ≡ bases_of starts
  pub clients : All IsBoundedClient scenario.clients
  pub ascending : AllPairs (λ (one other : Asks). one.client < other.client) scenario.clients
  pub lines : All (IsBoundedLine scenario.nodes scenario.clients) scenario.lines
  pub version : (scenario.version ≡ 1) ⊎ (scenario.version ≡ 2)

-- every valid scenario is within these bounds
abbrev pub ValidScenariosAreBounded : Type 0
ValidScenariosAreBounded = (scenario : Scenario) → IsValid scenario → IsBounded scenario

-- the parser's result for a text is that for its first bytes, one more than the most that a text may have
abbrev pub FirstBytesDecide : Type 0
FirstBytesDecide = (text : List ℕ) → verdict_of (take (most_bytes + 1) text) ≡ verdict_of text
