-- Each name is drawn once, for one group, and what an order queues is allowed by the owner of its name.
use Rattle.std.specs.List.{AllPairs}
use Rattle.std.specs.Prelude.{Bool, List, [], ◌≡◌, ℕ, ◌<◌, ◌≤◌, ◌^◌, ◌∷◌, ◌++◌, Some, None}
use Rattle.sc_base.specs.Definitions.{Among, Drawer, next_name}
use Rattle.sc_node_table.specs.Values.{Draw, Op, Order, OrderLine, Mail, Row, Tick, Node}
use Rattle.sc_words.specs.declared.commands.orders.Order.TheVariants as An
use Rattle.sc_actor.specs.declared.rows.Event.TheVariants.{Told}
use Rattle.sc_actor.specs.Definitions.{value}
use Rattle.sc_node_table.specs.NodeDefinitions.{NodeState, replica_of, group_of_order, names_after_ticks, ordered_command, untaken, ordered_row, pumped, ReplicaState, name_of}
use Rattle.sc_meaning.specs.sound.SoundDefinitions.{Ahead, player_table, node_seat}
use Rattle.sc_scenario.specs.declared.scenario.scenarios.Scenario.{Scenario}
use Rattle.sc_law_entries.specs.ring.RingDefinitions.{IsAllowed, Stories}
use Rattle.sc_law_entries.specs.names.Owners.{Rows, Owned, owned_by, waited, wished_at, drawn_at, owner_in}

-- ---- owners

-- with more rows a name keeps its owner
abbrev pub OwnersStay : Type 0
OwnersStay = (ahead : Ahead) (scenario : Scenario) (rows more : Rows) (name group : Draw) → owner_in ahead scenario rows name ≡ Some group → owner_in ahead scenario (rows ++ more) name ≡ Some group

-- a name that a row draws had no owner before the row, and has the group for which it is drawn from then on
abbrev pub DrawnNamesAreOwned : Type 0
DrawnNamesAreOwned = (ahead : Ahead) (scenario : Scenario) (before : Rows) (row : Row Mail OrderLine) (later : Rows) (owned : Owned) → Among owned (drawn_at ahead scenario before row)
    → (owner_in ahead scenario before owned.name ≡ None) × (owner_in ahead scenario (before ++ row ∷ later) owned.name ≡ Some owned.group)

-- a row of these drew a name for a group
pub record IsDrawn (ahead : Ahead) (scenario : Scenario) (rows : Rows) (name group : Draw) : Type 0 where
  pub before : Rows
  pub row : Row Mail OrderLine
  pub later : Rows
  pub are : rows ≡ before ++ row ∷ later
  pub drawn : Among (owned_by name group) (drawn_at ahead scenario before row)

-- no row draws a name twice
abbrev pub RowsDrawOnce : Type 0
RowsDrawOnce = (ahead : Ahead) (scenario : Scenario) (before : Rows) (row : Row Mail OrderLine) → AllPairs (λ (one other : Owned). one.name ≡ other.name → ⊥) (drawn_at ahead scenario before row)

-- a name that has an owner was drawn for it in a row
abbrev pub OwnedNamesAreDrawn : Type 0
OwnedNamesAreDrawn = (ahead : Ahead) (scenario : Scenario) (rows : Rows) (name group : Draw) → owner_in ahead scenario rows name ≡ Some group → IsDrawn ahead scenario rows name group

-- a name that has an owner is of a node of the scenario
abbrev pub OwnedNamesAreOfNodes : Type 0
OwnedNamesAreOfNodes = (ahead : Ahead) (scenario : Scenario) (rows : Rows) (name group : Draw) → owner_in ahead scenario rows name ≡ Some group → (1 ≤ name.node) × (name.node ≤ scenario.nodes)

-- a name of no node, as those of a scenario's groups are, has no owner
abbrev pub OtherNamesAreFree : Type 0
OtherNamesAreFree = (ahead : Ahead) (scenario : Scenario) (rows : Rows) (name : Draw) → name.node ≡ 0 → owner_in ahead scenario rows name ≡ None

-- of a node's names after these rows, those below its counter have owners, and the others have none
pub record HasNames (ahead : Ahead) (scenario : Scenario) (rows : Rows) (n : ℕ) (node : NodeState) : Type 0 where
  pub number : node.draws.node ≡ n
  pub drawn : (name : Draw) → name.node ≡ n → 1 ≤ name.count → name.count < node.draws.next → (group : Draw) × (owner_in ahead scenario rows name ≡ Some group)
  pub left : (name : Draw) → name.node ≡ n → node.draws.next ≤ name.count → owner_in ahead scenario rows name ≡ None

-- of the names of each node of a scenario, after any rows, those below its counter have owners, and the others have none
abbrev pub NodesHaveNames : Type 0
NodesHaveNames = (ahead : Ahead) (scenario : Scenario) (rows : Rows) (n : ℕ) → 1 ≤ n → n ≤ scenario.nodes → (node : NodeState) → value player_table (node_seat ahead scenario.groups scenario.policy n) rows ≡ Node node → HasNames ahead scenario rows n node

-- ---- orders

-- an order that moves a boundary or splits a group names a position of the ring
abbrev pub IsAtPosition : Order → Type 0
IsAtPosition (An.Join node group) = Unit {0}
IsAtPosition (An.Leave node group) = Unit {0}
IsAtPosition (An.Split group at) = at < 2 ^ 32
IsAtPosition (An.Merge group) = Unit {0}
IsAtPosition (An.Repart group at) = at < 2 ^ 32
IsAtPosition (An.Migrate group node) = Unit {0}

-- in the row after these a node gets an order that its replica of the order's group takes
pub record TakesOrder (ahead : Ahead) (scenario : Scenario) (before : Rows) (row : Row Mail OrderLine) (line : OrderLine) (node : NodeState) (r : ReplicaState) : Type 0 where
  pub low : 1 ≤ row.who
  pub high : row.who ≤ scenario.nodes
  pub value_is : value player_table (node_seat ahead scenario.groups scenario.policy row.who) before ≡ Node node
  pub event_is : row.event ≡ Told line
  pub found : replica_of (group_of_order line.order) node.replicas ≡ Some r
  pub taken : untaken node.draws line r ≡ None

-- where an order is taken its command is queued last, and the pump follows
abbrev pub OrdersAreQueued : Type 0
OrdersAreQueued = (drawer : Drawer) (line : OrderLine) (r : ReplicaState) (mails : List Mail) → untaken drawer line r ≡ None
    → ordered_row drawer line (r, mails) ≡ pumped (record r { backlog = r.backlog ++ ordered_command (next_name drawer) line.number line.order ∷ [] }, mails)

-- the command that is queued for an order, which names no place or a position of the ring, is allowed in the log of the order's group, whatever the stories are, by the owners of any journal that continues these rows
abbrev pub TakenOrdersAreAllowed : Type 0
TakenOrdersAreAllowed = (ahead : Ahead) (scenario : Scenario) (before : Rows) (row : Row Mail OrderLine) (later : Rows) (line : OrderLine) (node : NodeState) (r : ReplicaState)
    → TakesOrder ahead scenario before row line node r → IsAtPosition line.order → (request : ℕ → ℕ → Op) (stories : Stories)
    → IsAllowed (record { owner = owner_in ahead scenario (before ++ row ∷ later); request = request }) stories (group_of_order line.order) (ordered_command (next_name node.draws) line.number line.order)

-- ---- policies

-- what a policy orders names a position of the ring, where it names one
abbrev pub WishesAreAtPositions : Type 0
WishesAreAtPositions = (on : Bool) (r : ReplicaState) (line : OrderLine) → wished_at on r ≡ Some line → IsAtPosition line.order

-- the row after these is a tick of a node at which a replica takes what its policy orders, with the names that the replicas before it left
pub record TakesWish (ahead : Ahead) (scenario : Scenario) (before : Rows) (row : Row Mail OrderLine) (line : OrderLine) (node : NodeState) (older newer : List ReplicaState) (r : ReplicaState) : Type 0 where
  pub low : 1 ≤ row.who
  pub high : row.who ≤ scenario.nodes
  pub value_is : value player_table (node_seat ahead scenario.groups scenario.policy row.who) before ≡ Node node
  pub event_is : row.event ≡ Tick
  pub replicas_are : node.replicas ≡ older ++ r ∷ newer
  pub wished : wished_at node.policy r ≡ Some line
  pub taken : untaken (names_after_ticks node.policy node.draws older) line (waited r) ≡ None

-- the command that is queued for what a policy orders, which names no place or a position of the ring, is allowed in the log of its replica's group, whatever the stories are, by the owners of any journal that continues these rows
abbrev pub TakenWishesAreAllowed : Type 0
TakenWishesAreAllowed = (ahead : Ahead) (scenario : Scenario) (before : Rows) (row : Row Mail OrderLine) (later : Rows) (line : OrderLine) (node : NodeState) (older newer : List ReplicaState) (r : ReplicaState)
    → TakesWish ahead scenario before row line node older newer r → IsAtPosition line.order → (request : ℕ → ℕ → Op) (stories : Stories)
    → IsAllowed (record { owner = owner_in ahead scenario (before ++ row ∷ later); request = request }) stories (name_of r) (ordered_command (next_name (names_after_ticks node.policy node.draws older)) line.number line.order)
