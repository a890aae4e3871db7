-- What is asked of a journal's orders, those of its schedule and those of policies: that what they queue is allowed.
use Rattle.std.specs.Prelude.{◌≡◌, ◌≤◌, List, ◌∷◌, ◌++◌, None, Some}
use Rattle.sc_base.specs.Definitions.{next_name}
use Rattle.sc_node_table.specs.Values.{OrderLine, Mail, Tick, Row, Node}
use Rattle.sc_actor.specs.declared.rows.Event.TheVariants.{Told}
use Rattle.sc_actor.specs.Definitions.{value}
use Rattle.sc_node_table.specs.NodeDefinitions.{NodeState, group_of_order, names_after_ticks, replica_of, ordered_command, untaken, ReplicaState, name_of}
use Rattle.sc_meaning.specs.sound.SoundDefinitions.{Ahead, node_seat, player_table}
use Rattle.sc_scenario.specs.declared.scenario.scenarios.Scenario.{Scenario}
use Rattle.sc_law_entries.specs.ring.RingDefinitions.{Sources, IsAllowed, Stories}
use Rattle.sc_law_entries.specs.names.NameDefinitions.{waited, wished_at}
use Rattle.sc_law_entries.specs.logs.LogDefinitions.{Rows}

-- what a node of the scenario queues for an order that it takes, in a row of the journal, is allowed at the order's group, whatever the stories are
abbrev pub QueuedOrdersAreAllowed : Sources → Ahead → Scenario → Rows → Type 0
QueuedOrdersAreAllowed sources ahead scenario rows = (before : Rows) (row : Row Mail OrderLine) (later : Rows) → rows ≡ before ++ row ∷ later
    → (line : OrderLine) → row.event ≡ Told line → 1 ≤ row.who → row.who ≤ scenario.nodes → (node : NodeState) → value player_table (node_seat ahead scenario.groups scenario.policy row.who) before ≡ Node node
    → (r : ReplicaState) → replica_of (group_of_order line.order) node.replicas ≡ Some r → untaken node.draws line r ≡ None
    → (stories : Stories) → IsAllowed sources stories (group_of_order line.order) (ordered_command (next_name node.draws) line.number line.order)

-- what a node of the scenario queues at its tick for what a policy orders is allowed at the replica's group, whatever the stories are; each replica takes of the names that those before it left
abbrev pub WishedAreAllowed : Sources → Ahead → Scenario → Rows → Type 0
WishedAreAllowed sources ahead scenario rows = (before : Rows) (row : Row Mail OrderLine) (later : Rows) → rows ≡ before ++ row ∷ later
    → row.event ≡ Tick → 1 ≤ row.who → row.who ≤ scenario.nodes → (node : NodeState) → value player_table (node_seat ahead scenario.groups scenario.policy row.who) before ≡ Node node
    → (older newer : List ReplicaState) (r : ReplicaState) → node.replicas ≡ older ++ r ∷ newer → (line : OrderLine) → wished_at node.policy r ≡ Some line
    → untaken (names_after_ticks node.policy node.draws older) line (waited r) ≡ None
    → (stories : Stories) → IsAllowed sources stories (name_of r) (ordered_command (next_name (names_after_ticks node.policy node.draws older)) line.number line.order)

-- what is queued for orders of the schedule and of policies is allowed
pub record OrdersAreAllowed (sources : Sources) (ahead : Ahead) (scenario : Scenario) (rows : Rows) : Type 0 where
  pub told : QueuedOrdersAreAllowed sources ahead scenario rows
  pub wished : WishedAreAllowed sources ahead scenario rows
