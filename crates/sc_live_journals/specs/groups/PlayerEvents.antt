-- Each mail, order and other event that comes to a player leaves a group well led.
use Rattle.std.specs.Prelude.{◌≡◌, ℕ, ◌+◌, ◌<◌, ◌≤◌, true, false, List, [], Some, None}
use Rattle.sc_node_table.specs.Values.{Ballot, Command, Base, OrderLine, Mail, Prepare, Promise, Accept, Accepted, Learn, Install, Node, Seat, Event, Deliver, Report}
use Rattle.sc_base.specs.Definitions.{is_member}
use Rattle.sc_actor.specs.declared.rows.Event.TheVariants.{Told}
use Rattle.sc_actor.specs.Definitions.{value}
use Rattle.sc_live_orderly.specs.OrderlyDefinitions.{AreInTime}
use Rattle.sc_node_table.specs.NodeDefinitions.{entered, NodeState, replica_of, group_of_mail, group_of_order, ordered_row, ReplicaState, last_slot, mailed, slots_ahead}
use Rattle.sc_meaning.specs.sound.SoundDefinitions.{Player, player_table}
use Rattle.sc_live_steps.specs.calm.CalmDefinitions.{players, Rows}
use Rattle.sc_live_steps.specs.following.FollowingDefinitions.{Course, Sets, SlotLeaders, IsAside, DecidesNext}
use Rattle.sc_live_journals.specs.rows.RowDefinitions.{TakesMail, HoldsReplica, IsSeat, with_event, LeavesAlone, LeavesOrCreates}
use Rattle.sc_live_journals.specs.groups.RowKinds.{IsLedStep}
use Rattle.sc_live_journals.specs.groups.WellLedGroups.{Ends, IsWellLed}
use Rattle.sc_live_journals.specs.groups.RequiredLogs.{IsOfLog, HasRounds, IsLogsState, RestsBy, CountsAsMember, IsLogOf}

-- One player, of this seat, is this node after these rows; the group is well led in this course, and its log is as `IsLogOf` says.
pub record IsLedScene (at : Sets) (over : Ends) (by : SlotLeaders) (words : ℕ → ℕ → ℕ × ℕ) (births : List (Seat Player)) (rows : Rows) (seat : Seat Player) (node : NodeState) (base : Base) (course : Course) : Type 0 where
  pub log : IsLogOf at by
  pub seated : IsSeat births seat
  pub fact : value player_table seat rows ≡ Node node
  pub led : IsWellLed at over by words births rows base course

-- A group is well led after each Paxos mail of these kinds, after other mail at a replica that does not lead, and after an order there.
pub record MailsKeepLed : Type 0 where
  -- an accept request and a Prepare, from the node of its ballot
  pub accept : (at : Sets) (over : Ends) (by : SlotLeaders) (words : ℕ → ℕ → ℕ × ℕ) (births : List (Seat Player)) (rows : Rows) (seat : Seat Player) (number : ℕ) (mail : Mail) (node : NodeState) (base : Base) (course : Course) (r : ReplicaState) (ballot : Ballot) (slot : ℕ) (command : Command)
      → IsLedScene at over by words births rows seat node base course → TakesMail words births rows seat number mail → HoldsReplica seat node base r → mail.from ≡ ballot.node → mail.body ≡ Accept base.core.id ballot slot command
      → IsLedStep at over by words births rows seat (Deliver number) base course
  pub prepare : (at : Sets) (over : Ends) (by : SlotLeaders) (words : ℕ → ℕ → ℕ × ℕ) (births : List (Seat Player)) (rows : Rows) (seat : Seat Player) (number : ℕ) (mail : Mail) (node : NodeState) (base : Base) (course : Course) (r : ReplicaState) (ballot : Ballot) (from_slot : ℕ)
      → IsLedScene at over by words births rows seat node base course → TakesMail words births rows seat number mail → HoldsReplica seat node base r → mail.from ≡ ballot.node → mail.body ≡ Prepare base.core.id ballot from_slot
      → IsLedStep at over by words births rows seat (Deliver number) base course
  -- an entry of the log to be learnt: the replica elects itself by it where it is to lead next
  pub learn : (at : Sets) (over : Ends) (by : SlotLeaders) (words : ℕ → ℕ → ℕ × ℕ) (births : List (Seat Player)) (rows : Rows) (seat : Seat Player) (number : ℕ) (mail : Mail) (node : NodeState) (base : Base) (course : Course) (r : ReplicaState) (slot : ℕ) (command : Command)
      → IsLedScene at over by words births rows seat node base course → TakesMail words births rows seat number mail → HoldsReplica seat node base r → mail.body ≡ Learn base.core.id slot command
      → slot ≤ last_slot → IsOfLog at over (entered command r) → HasRounds r → IsLedStep at over by words births rows seat (Deliver number) base course
  -- a state of the log, at a replica, or from which the node creates one
  pub install : (at : Sets) (over : Ends) (by : SlotLeaders) (words : ℕ → ℕ → ℕ × ℕ) (births : List (Seat Player)) (rows : Rows) (seat : Seat Player) (number : ℕ) (mail : Mail) (node : NodeState) (base : Base) (course : Course) (r : ReplicaState) (slot : ℕ) (state : Base) (sets : List (List ℕ))
      → IsLedScene at over by words births rows seat node base course → TakesMail words births rows seat number mail → HoldsReplica seat node base r → mail.body ≡ Install base.core.id slot state sets → IsLogsState at by base slot mail.from state sets
      → IsLedStep at over by words births rows seat (Deliver number) base course
  pub made : (at : Sets) (over : Ends) (by : SlotLeaders) (words : ℕ → ℕ → ℕ × ℕ) (births : List (Seat Player)) (rows : Rows) (seat : Seat Player) (number : ℕ) (mail : Mail) (node : NodeState) (base : Base) (course : Course) (slot : ℕ) (state : Base) (sets : List (List ℕ))
      → IsLedScene at over by words births rows seat node base course → TakesMail words births rows seat number mail → node.me ≡ seat.who → replica_of base.core.id node.replicas ≡ None → mail.body ≡ Install base.core.id slot state sets → IsLogsState at by base slot mail.from state sets
      → IsLedStep at over by words births rows seat (Deliver number) base course
  -- a vote and a promise, at a replica that does not lead
  pub vote : (at : Sets) (over : Ends) (by : SlotLeaders) (words : ℕ → ℕ → ℕ × ℕ) (births : List (Seat Player)) (rows : Rows) (seat : Seat Player) (number : ℕ) (mail : Mail) (node : NodeState) (base : Base) (course : Course) (r : ReplicaState) (ballot : Ballot) (slot : ℕ)
      → IsLedScene at over by words births rows seat node base course → TakesMail words births rows seat number mail → HoldsReplica seat node base r → mail.body ≡ Accepted base.core.id ballot slot → r.running ≡ false
      → IsLedStep at over by words births rows seat (Deliver number) base course
  pub promise : (at : Sets) (over : Ends) (by : SlotLeaders) (words : ℕ → ℕ → ℕ × ℕ) (births : List (Seat Player)) (rows : Rows) (seat : Seat Player) (number : ℕ) (mail : Mail) (node : NodeState) (base : Base) (course : Course) (r : ReplicaState) (ballot : Ballot) (reports : List (Report Command))
      → IsLedScene at over by words births rows seat node base course → TakesMail words births rows seat number mail → HoldsReplica seat node base r → mail.body ≡ Promise base.core.id ballot reports → r.running ≡ false
      → IsLedStep at over by words births rows seat (Deliver number) base course
  -- mail that is no Paxos mail, and an order, at a replica that does not lead
  pub aside : (at : Sets) (over : Ends) (by : SlotLeaders) (words : ℕ → ℕ → ℕ × ℕ) (births : List (Seat Player)) (rows : Rows) (seat : Seat Player) (number : ℕ) (mail : Mail) (node : NodeState) (base : Base) (course : Course) (r : ReplicaState)
      → IsLedScene at over by words births rows seat node base course → TakesMail words births rows seat number mail → HoldsReplica seat node base r → group_of_mail mail.body ≡ Some base.core.id → IsAside r mail.body → r.running ≡ false
      → IsLedStep at over by words births rows seat (Deliver number) base course
  pub order : (at : Sets) (over : Ends) (by : SlotLeaders) (words : ℕ → ℕ → ℕ × ℕ) (births : List (Seat Player)) (rows : Rows) (seat : Seat Player) (line : OrderLine) (node : NodeState) (base : Base) (course : Course) (r : ReplicaState)
      → IsLedScene at over by words births rows seat node base course → AreInTime (players words births) (with_event rows seat (Told line)) → HoldsReplica seat node base r → group_of_order line.order ≡ base.core.id → r.running ≡ false
      → IsLedStep at over by words births rows seat (Told line) base course

-- A group is well led after each mail and order that its leader takes, if the leader's state is the log's then,
-- and it leads at each slot whose entry it executed.
pub record LeadersKeepLed : Type 0 where
  -- a vote: where it decides the next slot, the entries that are ready from that slot on are the next ones, and the replica executes none after the group is gone
  pub vote : (at : Sets) (over : Ends) (by : SlotLeaders) (words : ℕ → ℕ → ℕ × ℕ) (births : List (Seat Player)) (rows : Rows) (seat : Seat Player) (number : ℕ) (mail : Mail) (node : NodeState) (base : Base) (course : Course) (r : ReplicaState) (ballot : Ballot) (slot : ℕ)
      → IsLedScene at over by words births rows seat node base course → TakesMail words births rows seat number mail → HoldsReplica seat node base r → mail.body ≡ Accepted base.core.id ballot slot → r.running ≡ true
      → DecidesNext at mail.from ballot slot r → RestsBy over (mailed mail.from mail.body (r, [])).0.0 → IsOfLog at over (mailed mail.from mail.body (r, [])).0.0 → CountsAsMember at by r (mailed mail.from mail.body (r, [])).0.0 seat.who → IsLedStep at over by words births rows seat (Deliver number) base course
  -- a promise without reports
  pub promise : (at : Sets) (over : Ends) (by : SlotLeaders) (words : ℕ → ℕ → ℕ × ℕ) (births : List (Seat Player)) (rows : Rows) (seat : Seat Player) (number : ℕ) (mail : Mail) (node : NodeState) (base : Base) (course : Course) (r : ReplicaState) (ballot : Ballot)
      → IsLedScene at over by words births rows seat node base course → TakesMail words births rows seat number mail → HoldsReplica seat node base r → mail.body ≡ Promise base.core.id ballot [] → r.running ≡ true
      → IsOfLog at over (mailed mail.from mail.body (r, [])).0.0 → CountsAsMember at by r (mailed mail.from mail.body (r, [])).0.0 seat.who → IsLedStep at over by words births rows seat (Deliver number) base course
  -- mail that is no Paxos mail
  pub aside : (at : Sets) (over : Ends) (by : SlotLeaders) (words : ℕ → ℕ → ℕ × ℕ) (births : List (Seat Player)) (rows : Rows) (seat : Seat Player) (number : ℕ) (mail : Mail) (node : NodeState) (base : Base) (course : Course) (r : ReplicaState)
      → IsLedScene at over by words births rows seat node base course → TakesMail words births rows seat number mail → HoldsReplica seat node base r → group_of_mail mail.body ≡ Some base.core.id → IsAside r mail.body → r.running ≡ true
      → IsOfLog at over (mailed mail.from mail.body (r, [])).0.0 → CountsAsMember at by r (mailed mail.from mail.body (r, [])).0.0 seat.who → IsLedStep at over by words births rows seat (Deliver number) base course
  -- an order
  pub order : (at : Sets) (over : Ends) (by : SlotLeaders) (words : ℕ → ℕ → ℕ × ℕ) (births : List (Seat Player)) (rows : Rows) (seat : Seat Player) (line : OrderLine) (node : NodeState) (base : Base) (course : Course) (r : ReplicaState)
      → IsLedScene at over by words births rows seat node base course → AreInTime (players words births) (with_event rows seat (Told line)) → HoldsReplica seat node base r → group_of_order line.order ≡ base.core.id → r.running ≡ true
      → IsOfLog at over (ordered_row node.draws line (r, [])).0 → CountsAsMember at by r (ordered_row node.draws line (r, [])).0 seat.who → IsLedStep at over by words births rows seat (Told line) base course

-- A group is well led after an event that does nothing in it, but may create a replica at the group's birth.
pub record OthersKeepLed : Type 0 where
  pub alone : (at : Sets) (over : Ends) (by : SlotLeaders) (words : ℕ → ℕ → ℕ × ℕ) (births : List (Seat Player)) (rows : Rows) (seat : Seat Player) (event : Event OrderLine) (base : Base) (course : Course) → IsLogOf at by
      → AreInTime (players words births) (with_event rows seat event) → IsWellLed at over by words births rows base course → LeavesAlone births rows seat event base → IsLedStep at over by words births rows seat event base course
  pub creation : (at : Sets) (over : Ends) (by : SlotLeaders) (words : ℕ → ℕ → ℕ × ℕ) (births : List (Seat Player)) (rows : Rows) (seat : Seat Player) (event : Event OrderLine) (base : Base) (course : Course) → IsLogOf at by
      → AreInTime (players words births) (with_event rows seat event) → IsWellLed at over by words births rows base course → ((slot : ℕ) → slot < 1 + slots_ahead → at slot ≡ base.core.members) → is_member base.core.members base.core.first ≡ true → base.core.gone ≡ None
      → LeavesOrCreates births rows seat event base → IsLedStep at over by words births rows seat event base course
