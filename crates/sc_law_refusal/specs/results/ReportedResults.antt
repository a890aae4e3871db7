-- Every result that a row reports of an order has happened: the log of a group decided it before the row, or the row refuses the order, for a cause.
use Rattle.std.specs.Prelude.{◌≡◌, ℕ, ◌<◌, ◌-◌, ◌^◌, true, false, List, ◌∷◌, ◌++◌, Option, None, Some, ◌⊎◌}
use Rattle.sc_base.specs.Definitions.{Among, Drawer, next_name}
use Rattle.sc_node_table.specs.Values.{Base, Command, Input, Mail, Node, OrderLine, OrderRefusal, OrderResult, Route, Row, Seat}
use Rattle.sc_actor.specs.declared.rows.Input.TheVariants.{Told}
use Rattle.sc_words.specs.declared.commands.orders.OrderRefusal.TheVariants.{NotLeader}
use Rattle.sc_words.specs.declared.commands.orders.OrderResult.TheVariants.{Done, Committed, Aborted, Refused}
use Rattle.sc_group_table.specs.machine.MachineDefinitions.{group_of, refusal_of, state_after}
use Rattle.sc_node_table.specs.NodeDefinitions.{NodeState, ReplicaState, group_of_order, ordered_command, replica_of, settled, takes_name}
use Rattle.sc_scenario.specs.declared.scenario.scenarios.Scenario.{Scenario}
use Rattle.sc_meaning.specs.sound.SoundDefinitions.{Ahead, Player, decided_log, groups_at}
use Rattle.sc_law_refusal.specs.refusal.Causes.{IsHeldOrBrought}
use Rattle.sc_law_refusal.specs.refusal.NodeCauses.{Became, takers}
use Rattle.sc_law_refusal.specs.refusal.RowCauses.{Rows, Acts}
use Rattle.sc_law_refusal.specs.results.Results.{IsOf, EndsOrder, ReportAs}

-- ---- what a log decided

-- an entry in the decided log of a group of the journal ends the order with the result, in the group's state at the entry's place
pub record IsDecided (ahead : Ahead) (scenario : Scenario) (rows : Rows) (order : ℕ) (result : OrderResult) : Type 0 where
  pub base : Base
  pub stands : Among base (groups_at ahead scenario.groups rows)
  pub prefix : List Command
  pub entry : Command
  pub later : List Command
  pub log_is : decided_log ahead base rows ≡ prefix ++ entry ∷ later
  pub ends : EndsOrder (state_after (group_of base) prefix) entry order result

-- ---- what a row refuses

-- a replica does not lead its group: the group is gone, or the replica is not its settled leader
abbrev pub LeadsNot : ReplicaState → Type 0
LeadsNot r = ((into : Route) × (r.group.core.gone ≡ Some into)) ⊎ (settled r ≡ false)

-- a replica that leads its group finds why the group refuses the order as it stands, the first cause; or the group finds none, and the node has drawn all its names
pub record FindsWhy (drawer : Drawer) (line : OrderLine) (r : ReplicaState) (why : OrderRefusal) : Type 0 where
  pub stands : r.group.core.gone ≡ None
  pub leads : settled r ≡ true
  pub cause :
      (refusal_of r.group.core (ordered_command (next_name drawer) line.number line.order) ≡ Some why)
      ⊎ ((refusal_of r.group.core (ordered_command (next_name drawer) line.number line.order) ≡ None) × (takes_name line.order ≡ true) × (drawer.next ≡ 2 ^ 32 - 1) × (why ≡ NotLeader r.hint))

-- why a replica, if the node has one of the group, does not take an order that is given
abbrev pub RefusesLine : Drawer → OrderLine → Option ReplicaState → OrderRefusal → Type 0
RefusesLine drawer line None why = why ≡ NotLeader None
RefusesLine drawer line (Some r) why = (LeadsNot r × (why ≡ NotLeader r.hint)) ⊎ FindsWhy drawer line r why

-- an order is refused as it is given to a node
pub record IsNotTaken (node : NodeState) (input : Input Mail OrderLine) (order : ℕ) (why : OrderRefusal) : Type 0 where
  pub line : OrderLine
  pub given : input ≡ Told line
  pub own : order ≡ line.number
  pub cause : RefusesLine node.draws line (replica_of (group_of_order line.order) node.replicas) why

-- an order that waits at a replica of a node, which holds its command or is brought or given it, is given back: the replica's queue was emptied, since it runs no longer, or was elected anew, in a round above all that it had seen
pub record IsDismissed (node after : NodeState) (input : Input Mail OrderLine) (order : ℕ) (why : OrderRefusal) : Type 0 where
  pub replica : ReplicaState
  pub later : ReplicaState
  pub became : Became node after replica later
  pub takes : Among replica (takers node input)
  pub command : Command
  pub waits : IsHeldOrBrought replica input command ⊎ ((line : OrderLine) × (input ≡ Told line) × (line.number ≡ order))
  pub own : IsOf order command
  pub hint : Option ℕ
  pub says : why ≡ NotLeader hint
  pub stops : (later.running ≡ false) ⊎ (replica.top.round < later.leader.ballot.round)

-- the row after these refuses an order
pub record IsRefusedIn (ahead : Ahead) (scenario : Scenario) (rows : Rows) (row : Row Mail OrderLine) (order : ℕ) (why : OrderRefusal) : Type 0 where
  pub seat : Seat Player
  pub node : NodeState
  pub after : NodeState
  pub input : Input Mail OrderLine
  pub acts : Acts ahead scenario rows row seat (Node node) (Node after) input
  pub cause : IsNotTaken node input order why ⊎ IsDismissed node after input order why

-- ---- what a row reports

-- a result has happened: an entry that was decided carried the order out, committed, aborted or refused it; or the row refuses it
abbrev pub HasHappened : Ahead → Scenario → Rows → Row Mail OrderLine → ℕ → OrderResult → Type 0
HasHappened ahead scenario rows row order Done = IsDecided ahead scenario rows order Done
HasHappened ahead scenario rows row order Committed = IsDecided ahead scenario rows order Committed
HasHappened ahead scenario rows row order Aborted = IsDecided ahead scenario rows order Aborted
HasHappened ahead scenario rows row order (Refused why) = IsDecided ahead scenario rows order (Refused why) ⊎ IsRefusedIn ahead scenario rows row order why

-- each result that a row reports has happened by the rows before it, or in it
abbrev pub ReportsWhatHappened : Ahead → Scenario → Rows → Row Mail OrderLine → Type 0
ReportsWhatHappened ahead scenario rows row = ReportAs (HasHappened ahead scenario rows row) row.sent
