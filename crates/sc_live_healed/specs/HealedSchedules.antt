-- Schedules that heal a store without orders: any lines, then a tick of each living node, then ticks and starts of clients, each with a `settle` line behind it.
use Rattle.std.specs.Prelude.{◌≡◌, ℕ, Bool, ◌==◌, ◌&&◌, not, nat_le, true, false, List, [], ◌∷◌, ◌++◌, filter}
use Rattle.std.specs.List.{flat_map, list_any}
use Rattle.sc_base.specs.Definitions.{Among, Each, is_majority, client_actor}
use Rattle.sc_node_table.specs.Values.{Base}
use Rattle.sc_scenario.specs.declared.scenario.scenarios.Scenario.{Scenario}
use Rattle.sc_scenario.specs.declared.scenario.scenarios.SchedLine.{SchedLine}
use Rattle.sc_scenario.specs.declared.scenario.scenarios.SchedLine.TheVariants.{Go, Deliver, Drop, Again, Tick, Crash, Told, Settle, Free, Storm}
use Rattle.sc_live_orderly.specs.Turns.{Kick, Ticks, Starts}

-- whether a line crashes this node
abbrev pub crashes : ℕ → SchedLine → Bool
crashes node (Crash other) = other == node
crashes node (Go client) = false
crashes node (Deliver who k) = false
crashes node (Drop who k) = false
crashes node (Again mail) = false
crashes node (Tick who) = false
crashes node (Told other order) = false
crashes node (Settle most) = false
crashes node (Free most workers) = false
crashes node (Storm number most) = false

-- whether a line gives an order
abbrev pub is_order : SchedLine → Bool
is_order (Told node order) = true
is_order (Go client) = false
is_order (Deliver who k) = false
is_order (Drop who k) = false
is_order (Again mail) = false
is_order (Tick who) = false
is_order (Crash node) = false
is_order (Settle most) = false
is_order (Free most workers) = false
is_order (Storm number most) = false

-- whether a node lives: no line crashes it
abbrev pub lives : Scenario → ℕ → Bool
lives scenario node = nat_le 1 node && nat_le node scenario.nodes && not (list_any (crashes node) scenario.lines)

-- more than half of the members of each group live
abbrev pub HasLivingMajorities : Scenario → Type 0
HasLivingMajorities scenario = Each (λ (base : Base). is_majority base.core.members (filter (lives scenario) base.core.members) ≡ true) scenario.groups

-- a node ticks, and a `settle` line of at most `most` deliveries follows
pub record NodeTurn : Type 0 where
  pub node : ℕ
  pub most : ℕ

-- a client ticks or starts, and a `settle` line of at most `most` deliveries follows
pub record ClientTurn : Type 0 where
  pub client : ℕ
  pub kick : Kick
  pub most : ℕ

-- the lines of a node's turn
abbrev pub node_lines : NodeTurn → List SchedLine
node_lines turn = Tick turn.node ∷ Settle turn.most ∷ []

-- the line by which a client ticks or starts
abbrev pub client_line : Kick → ℕ → SchedLine
client_line Ticks client = Tick (client_actor client)
client_line Starts client = Go client

-- the lines of a client's turn
abbrev pub client_lines : ClientTurn → List SchedLine
client_lines turn = client_line turn.kick turn.client ∷ Settle turn.most ∷ []

-- The lines heal: there is no policy; behind any lines but orders a `settle` line stands, then the turns of nodes, of each that lives at least one, then the turns of clients.
pub record IsHealed (scenario : Scenario) : Type 0 where
  pub before : List SchedLine
  pub most : ℕ
  pub sweep : List NodeTurn
  pub asks : List ClientTurn
  pub no_policy : scenario.policy ≡ false
  pub no_orders : list_any is_order before ≡ false
  pub lines_are : scenario.lines ≡ before ++ Settle most ∷ flat_map node_lines sweep ++ flat_map client_lines asks
  pub nodes : Each (λ turn. (nat_le 1 turn.node && nat_le turn.node scenario.nodes) ≡ true) sweep
  pub swept : (node : ℕ) → lives scenario node ≡ true → (turn : NodeTurn) × Among turn sweep × (turn.node ≡ node)
