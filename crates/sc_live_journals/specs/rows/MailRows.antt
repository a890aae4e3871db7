-- A node that takes mail of its group leaves the group following its leader.
use Rattle.std.specs.Prelude.{◌≡◌, ℕ, suc, ◌<◌, ◌≤◌, true, false, List, [], Some, None}
use Rattle.sc_node_table.specs.Values.{Ballot, Command, Base, OrderLine, Mail, Prepare, Promise, Accept, Accepted, Learn, Install, Node, Seat, Deliver, Report}
use Rattle.sc_base.specs.Definitions.{IsRoster, is_member}
use Rattle.sc_actor.specs.declared.rows.Event.TheVariants.{Told}
use Rattle.sc_actor.specs.Definitions.{mails, numbered, value}
use Rattle.sc_live_orderly.specs.OrderlyDefinitions.{AreInTime}
use Rattle.sc_node_table.specs.NodeDefinitions.{entered, NodeState, replica_of, group_of_mail, may_come, group_of_order, ReplicaState, first_ballot, last_slot, mailed}
use Rattle.sc_meaning.specs.sound.SoundDefinitions.{Player, player_table}
use Rattle.sc_live_steps.specs.calm.CalmDefinitions.{players, Rows}
use Rattle.sc_live_steps.specs.following.FollowingDefinitions.{Course, Sets, StopsAlone, IsAside, DecidesNext, Stays}
use Rattle.sc_live_journals.specs.rows.Groups.{IsFollowedAt, FollowsOn}
use Rattle.sc_live_journals.specs.rows.ReplicaSteps.{WaitsStill}
use Rattle.sc_live_journals.specs.rows.ReplicaInvariant.{IsWellKept}
use Rattle.sc_live_journals.specs.rows.PlayerRows.{IsSeat, with_event, IsWholeState}

-- One player, of this seat, is this node after these rows, the group follows its leader in this course, and one to nine nodes decide each slot.
pub record IsScene (at : Sets) (words : ℕ → ℕ → ℕ × ℕ) (births : List (Seat Player)) (rows : Rows) (seat : Seat Player) (node : NodeState) (base : Base) (course : Course) : Type 0 where
  pub rosters : (slot : ℕ) → IsRoster (at slot)
  pub seated : IsSeat births seat
  pub fact : value player_table seat rows ≡ Node node
  pub followed : IsFollowedAt at words births rows base course

-- The node takes this mail in time, from one that may send it.
pub record TakesMail (words : ℕ → ℕ → ℕ × ℕ) (births : List (Seat Player)) (rows : Rows) (seat : Seat Player) (number : ℕ) (mail : Mail) : Type 0 where
  pub timely : AreInTime (players words births) (with_event rows seat (Deliver number))
  pub sent : numbered (mails rows) number ≡ Some mail
  pub comes : may_come mail.from mail.body ≡ true

-- The node has this replica of the group, and the replica is well kept.
pub record HoldsReplica (seat : Seat Player) (node : NodeState) (base : Base) (r : ReplicaState) : Type 0 where
  pub here : replica_of base.core.id node.replicas ≡ Some r
  pub well : IsWellKept seat.who r

-- The group follows its leader after the mail, in this course.
abbrev pub FollowsAfter : Sets → (ℕ → ℕ → ℕ × ℕ) → List (Seat Player) → Rows → Seat Player → ℕ → Base → Course → Type 0
FollowsAfter at words births rows seat number base course = IsFollowedAt at words births (with_event rows seat (Deliver number)) base course

-- A group follows its leader, in the same course, after each Paxos mail of these kinds, after other mail at a replica that does not lead, and after an order there.
pub record NodesKeepFollowing : Type 0 where
  -- an accept request, from the node of its ballot
  pub accept : (at : Sets) (words : ℕ → ℕ → ℕ × ℕ) (births : List (Seat Player)) (rows : Rows) (seat : Seat Player) (number : ℕ) (mail : Mail) (node : NodeState) (base : Base) (course : Course) (r : ReplicaState) (ballot : Ballot) (slot : ℕ) (command : Command)
      → IsScene at words births rows seat node base course → TakesMail words births rows seat number mail → HoldsReplica seat node base r → mail.from ≡ ballot.node → mail.body ≡ Accept base.core.id ballot slot command
      → FollowsAfter at words births rows seat number base course
  -- a Prepare, from the node of its ballot, that asks only about slots above what the acceptor has forgotten
  pub prepare : (at : Sets) (words : ℕ → ℕ → ℕ × ℕ) (births : List (Seat Player)) (rows : Rows) (seat : Seat Player) (number : ℕ) (mail : Mail) (node : NodeState) (base : Base) (course : Course) (r : ReplicaState) (ballot : Ballot) (from_slot : ℕ)
      → IsScene at words births rows seat node base course → TakesMail words births rows seat number mail → HoldsReplica seat node base r → mail.from ≡ ballot.node → mail.body ≡ Prepare base.core.id ballot from_slot → r.acceptor.floor < from_slot
      → FollowsAfter at words births rows seat number base course
  -- an entry to be learnt, by which the replica does not elect itself
  pub learn : (at : Sets) (words : ℕ → ℕ → ℕ × ℕ) (births : List (Seat Player)) (rows : Rows) (seat : Seat Player) (number : ℕ) (mail : Mail) (node : NodeState) (base : Base) (course : Course) (r : ReplicaState) (slot : ℕ) (command : Command)
      → IsScene at words births rows seat node base course → TakesMail words births rows seat number mail → HoldsReplica seat node base r → mail.body ≡ Learn base.core.id slot command
      → slot ≤ last_slot → Stays (entered command r) → WaitsStill at course seat.who (suc slot) → FollowsAfter at words births rows seat number base course
  -- a state, from a member of it
  pub install : (at : Sets) (words : ℕ → ℕ → ℕ × ℕ) (births : List (Seat Player)) (rows : Rows) (seat : Seat Player) (number : ℕ) (mail : Mail) (node : NodeState) (base : Base) (course : Course) (r : ReplicaState) (slot : ℕ) (state : Base) (sets : List (List ℕ))
      → IsScene at words births rows seat node base course → TakesMail words births rows seat number mail → HoldsReplica seat node base r → mail.body ≡ Install base.core.id slot state sets
      → IsWholeState slot sets → is_member state.core.members mail.from ≡ true → WaitsStill at course seat.who (suc slot) → FollowsAfter at words births rows seat number base course
  -- a state, from a member of it, from which the node creates a replica
  pub made : (at : Sets) (words : ℕ → ℕ → ℕ × ℕ) (births : List (Seat Player)) (rows : Rows) (seat : Seat Player) (number : ℕ) (mail : Mail) (node : NodeState) (base : Base) (course : Course) (slot : ℕ) (state : Base) (sets : List (List ℕ))
      → IsScene at words births rows seat node base course → TakesMail words births rows seat number mail → replica_of base.core.id node.replicas ≡ None → mail.body ≡ Install base.core.id slot state sets
      → IsWholeState slot sets → first_ballot state.core ≡ first_ballot base.core → is_member state.core.members mail.from ≡ true → WaitsStill at course seat.who (suc slot) → FollowsAfter at words births rows seat number base course
  -- a vote and a promise, at a replica that does not lead
  pub vote : (at : Sets) (words : ℕ → ℕ → ℕ × ℕ) (births : List (Seat Player)) (rows : Rows) (seat : Seat Player) (number : ℕ) (mail : Mail) (node : NodeState) (base : Base) (course : Course) (r : ReplicaState) (ballot : Ballot) (slot : ℕ)
      → IsScene at words births rows seat node base course → TakesMail words births rows seat number mail → HoldsReplica seat node base r → mail.body ≡ Accepted base.core.id ballot slot → r.running ≡ false → FollowsAfter at words births rows seat number base course
  pub promise : (at : Sets) (words : ℕ → ℕ → ℕ × ℕ) (births : List (Seat Player)) (rows : Rows) (seat : Seat Player) (number : ℕ) (mail : Mail) (node : NodeState) (base : Base) (course : Course) (r : ReplicaState) (ballot : Ballot) (reports : List (Report Command))
      → IsScene at words births rows seat node base course → TakesMail words births rows seat number mail → HoldsReplica seat node base r → mail.body ≡ Promise base.core.id ballot reports → r.running ≡ false → FollowsAfter at words births rows seat number base course
  -- mail that is no Paxos mail, and an order, at a replica that does not lead
  pub aside : (at : Sets) (words : ℕ → ℕ → ℕ × ℕ) (births : List (Seat Player)) (rows : Rows) (seat : Seat Player) (number : ℕ) (mail : Mail) (node : NodeState) (base : Base) (course : Course) (r : ReplicaState)
      → IsScene at words births rows seat node base course → TakesMail words births rows seat number mail → HoldsReplica seat node base r → group_of_mail mail.body ≡ Some base.core.id → IsAside r mail.body → r.running ≡ false
      → FollowsAfter at words births rows seat number base course
  pub order : (at : Sets) (words : ℕ → ℕ → ℕ × ℕ) (births : List (Seat Player)) (rows : Rows) (seat : Seat Player) (line : OrderLine) (node : NodeState) (base : Base) (course : Course) (r : ReplicaState)
      → IsScene at words births rows seat node base course → AreInTime (players words births) (with_event rows seat (Told line)) → HoldsReplica seat node base r → group_of_order line.order ≡ base.core.id → r.running ≡ false
      → IsFollowedAt at words births (with_event rows seat (Told line)) base course

-- A group follows its leader, in a course after it, after each mail and order that the leader takes.
pub record LeadsKeepFollowing : Type 0 where
  -- a vote: where it decides the next slot, the entries that are ready from that slot on are the next ones
  pub vote : (at : Sets) (words : ℕ → ℕ → ℕ × ℕ) (births : List (Seat Player)) (rows : Rows) (seat : Seat Player) (number : ℕ) (mail : Mail) (node : NodeState) (base : Base) (course : Course) (r : ReplicaState) (ballot : Ballot) (slot : ℕ)
      → IsScene at words births rows seat node base course → TakesMail words births rows seat number mail → HoldsReplica seat node base r → mail.body ≡ Accepted base.core.id ballot slot → r.running ≡ true
      → DecidesNext at mail.from ballot slot r → StopsAlone course (mailed mail.from mail.body (r, [])).0.0 → FollowsOn at words births (with_event rows seat (Deliver number)) base
  -- a promise
  pub promise : (at : Sets) (words : ℕ → ℕ → ℕ × ℕ) (births : List (Seat Player)) (rows : Rows) (seat : Seat Player) (number : ℕ) (mail : Mail) (node : NodeState) (base : Base) (course : Course) (r : ReplicaState) (ballot : Ballot) (reports : List (Report Command))
      → IsScene at words births rows seat node base course → TakesMail words births rows seat number mail → HoldsReplica seat node base r → mail.body ≡ Promise base.core.id ballot reports → r.running ≡ true
      → FollowsOn at words births (with_event rows seat (Deliver number)) base
  -- mail that is no Paxos mail
  pub aside : (at : Sets) (words : ℕ → ℕ → ℕ × ℕ) (births : List (Seat Player)) (rows : Rows) (seat : Seat Player) (number : ℕ) (mail : Mail) (node : NodeState) (base : Base) (course : Course) (r : ReplicaState)
      → IsScene at words births rows seat node base course → TakesMail words births rows seat number mail → HoldsReplica seat node base r → group_of_mail mail.body ≡ Some base.core.id → IsAside r mail.body → r.running ≡ true
      → FollowsOn at words births (with_event rows seat (Deliver number)) base
  -- an order
  pub order : (at : Sets) (words : ℕ → ℕ → ℕ × ℕ) (births : List (Seat Player)) (rows : Rows) (seat : Seat Player) (line : OrderLine) (node : NodeState) (base : Base) (course : Course) (r : ReplicaState)
      → IsScene at words births rows seat node base course → AreInTime (players words births) (with_event rows seat (Told line)) → HoldsReplica seat node base r → group_of_order line.order ≡ base.core.id → r.running ≡ true
      → FollowsOn at words births (with_event rows seat (Told line)) base
