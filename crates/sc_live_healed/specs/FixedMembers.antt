-- What holds of each replica and each mail in any journal without orders and policy: the members of each group are those of its birth, and nothing but requests is executed.
use Rattle.std.specs.Prelude.{◌≡◌, ℕ, true, false, List, [], replicate, Some, None, ◌⊎◌}
use Rattle.sc_base.specs.Definitions.{Among, Each, is_member}
use Rattle.sc_node_table.specs.Values.{Draw, Base, Command, Noop, Call, Join, Leave, Split, Begin, Prepared, RecordVote, GiveUp, Finish, Watched, RecordWatch, AnswerBody, Value, NotLeader, NotMine, Gone, Stale, Mail, MailBody, Request, Answer, Prepare, Promise, Accept, Accepted, Nack, Learn, Ask, Install, TxPrepare, TxVote, TxOutcome, TxElsewhere, TxWatch, TxWatched, Told, Report, Flight}
use Rattle.sc_words.specs.ideal.IdealDefinitions.{key_of, holds_key}
use Rattle.sc_words.specs.paxos.PaxosDefinitions.{IsAtLeast}
use Rattle.sc_group_table.specs.machine.MachineDefinitions.{Group}
use Rattle.sc_client_table.specs.declared.lookup.ways.Way.{Way}
use Rattle.sc_client_table.specs.table.TableDefinitions.{Client}
use Rattle.sc_node_table.specs.NodeDefinitions.{NodeState, ReplicaState, replica_of, slots_ahead}

-- a request for a key of the group
abbrev pub IsFixedRequest : Base → Command → Type 0
IsFixedRequest base (Call client seq op) = holds_key base.core.arc (key_of op) ≡ true
IsFixedRequest base Noop = ⊥
IsFixedRequest base (Join node order) = ⊥
IsFixedRequest base (Leave node order) = ⊥
IsFixedRequest base (Split at child order) = ⊥
IsFixedRequest base (Begin tx body order) = ⊥
IsFixedRequest base (Prepared tx offer) = ⊥
IsFixedRequest base (RecordVote tx vote by) = ⊥
IsFixedRequest base (GiveUp tx) = ⊥
IsFixedRequest base (Finish tx outcome) = ⊥
IsFixedRequest base (Watched tx watch) = ⊥
IsFixedRequest base (RecordWatch tx vote by) = ⊥

-- a command of a log whose group is not reshaped: a request for a key of the group, or a Noop
abbrev pub IsFixedCommand : Base → Command → Type 0
IsFixedCommand base command = IsFixedRequest base command ⊎ (command ≡ Noop)

-- an executed state whose record is that of the group's birth
abbrev pub IsFixedGroup : Base → Group → Type 0
IsFixedGroup base group = group.core ≡ base.core

-- a replica of a group that is not reshaped: its record and the members of its open slots are those of the group's birth, no transaction waits, and whatever is queued, in flight, ready, reported, accepted or executed is a request or a Noop
pub record IsFixedReplica (base : Base) (r : ReplicaState) : Type 0 where
  pub group : IsFixedGroup base r.group
  pub sets : r.sets ≡ replicate slots_ahead base.core.members
  pub acts : r.acts ≡ []
  pub waits : r.waits ≡ 0
  pub backlog : Each (IsFixedRequest base) r.backlog
  pub flights : Each (λ (flight : Flight Command). IsFixedCommand base flight.value) r.leader.flights
  pub ready : Each (λ (entry : ℕ × Command). IsFixedCommand base entry.1) r.ready
  pub reports : Each (λ (report : Report Command). IsFixedCommand base report.value) r.leader.reports
  pub accepted : Each (λ (report : Report Command). IsFixedCommand base report.value) r.acceptor.accepted
  pub entries : Each (IsFixedCommand base) r.log.entries

-- a replica that runs does so in a ballot of its own node, which is not below its acceptor's promise, and takes its node for the leader
pub record RunsInOwnBallot (r : ReplicaState) : Type 0 where
  pub own : r.leader.ballot.node ≡ r.me
  pub seen : IsAtLeast r.top r.leader.ballot
  pub unpassed : IsAtLeast r.leader.ballot r.acceptor.promised
  pub hint : r.hint ≡ Some r.me

-- a replica that does not run has nothing queued, in flight or ready, and takes a member for the leader
pub record IsFollower (base : Base) (r : ReplicaState) : Type 0 where
  pub backlog : r.backlog ≡ []
  pub flights : r.leader.flights ≡ []
  pub ready : r.ready ≡ []
  pub leader : ℕ
  pub hint : r.hint ≡ Some leader
  pub member : is_member base.core.members leader ≡ true

-- no promise is above the greatest ballot seen, and each is to a member; a replica that runs does so in a ballot of its own, and one that does not is a follower
pub record KeepsBallots (base : Base) (r : ReplicaState) : Type 0 where
  pub promised : IsAtLeast r.top r.acceptor.promised
  pub asker : is_member base.core.members r.acceptor.promised.node ≡ true
  pub running : r.running ≡ true → RunsInOwnBallot r
  pub stopped : r.running ≡ false → IsFollower base r

-- both nodes are members of the group
abbrev pub IsOfMembers : Base → ℕ → ℕ → Type 0
IsOfMembers base from to = (is_member base.core.members from ≡ true) × (is_member base.core.members to ≡ true)

-- a state that is sent has the record of the group's birth
abbrev pub IsFixedBase : Base → Base → Type 0
IsFixedBase base sent = sent.core ≡ base.core

-- an answer of a group that is not reshaped: it names no other arc, successor or leader than the group has had, and no group is gone
abbrev pub IsFixedAnswer : Base → AnswerBody → Type 0
IsFixedAnswer base (Value reply) = Unit {0}
IsFixedAnswer base (NotLeader None) = ⊥
IsFixedAnswer base (NotLeader (Some hint)) = is_member base.core.members hint ≡ true
IsFixedAnswer base (NotMine arc succ) = (arc ≡ base.core.arc) × (succ ≡ base.core.succ)
IsFixedAnswer base (Gone into) = ⊥
IsFixedAnswer base (Stale last) = Unit {0}

-- what a mail of a group that is not reshaped says: the group's mail passes between its members, ballots are of the node that asks, and no mail of orders or transactions is sent
abbrev pub IsFixedBody : Base → ℕ → ℕ → MailBody → Type 0
IsFixedBody base from to (Request group client seq op) = (group ≡ base.core.id) × (is_member base.core.members to ≡ true)
IsFixedBody base from to (Answer group seq answer) = (group ≡ base.core.id) × (is_member base.core.members from ≡ true) × IsFixedAnswer base answer
IsFixedBody base from to (Prepare group ballot from_slot) = (group ≡ base.core.id) × IsOfMembers base from to × (ballot.node ≡ from)
IsFixedBody base from to (Promise group ballot reports) = (group ≡ base.core.id) × IsOfMembers base from to × (ballot.node ≡ to) × Each (λ (report : Report Command). IsFixedCommand base report.value) reports
IsFixedBody base from to (Accept group ballot slot command) = (group ≡ base.core.id) × IsOfMembers base from to × (ballot.node ≡ from) × IsFixedCommand base command
IsFixedBody base from to (Accepted group ballot slot) = (group ≡ base.core.id) × IsOfMembers base from to × (ballot.node ≡ to)
IsFixedBody base from to (Nack group promised) = (group ≡ base.core.id) × IsOfMembers base from to × (is_member base.core.members promised.node ≡ true)
IsFixedBody base from to (Learn group slot command) = (group ≡ base.core.id) × IsOfMembers base from to × IsFixedCommand base command
IsFixedBody base from to (Ask group from_slot) = (group ≡ base.core.id) × IsOfMembers base from to
IsFixedBody base from to (Install group slot sent sets) = (group ≡ base.core.id) × IsOfMembers base from to × IsFixedBase base sent × (sets ≡ replicate slots_ahead base.core.members)
IsFixedBody base from to (TxPrepare tx offer) = ⊥
IsFixedBody base from to (TxVote tx coord part vote) = ⊥
IsFixedBody base from to (TxOutcome tx part outcome) = ⊥
IsFixedBody base from to (TxElsewhere tx coord hint) = ⊥
IsFixedBody base from to (TxWatch tx watch) = ⊥
IsFixedBody base from to (TxWatched tx coord part vote) = ⊥
IsFixedBody base from to (Told order result) = ⊥

-- a mail of one of these groups, which says what `IsFixedBody` allows
pub record IsFixedMail (bases : List Base) (mail : Mail) : Type 0 where
  pub base : Base
  pub among : Among base bases
  pub says : IsFixedBody base mail.from mail.to mail.body

-- a node of which each replica is of a group that it is a member of, and which has one of each such group
pub record IsFixedNode (bases : List Base) (node : NodeState) : Type 0 where
  pub replicas : Each (λ r. (base : Base) × Among base bases × (is_member base.core.members node.me ≡ true) × (r.me ≡ node.me) × IsFixedReplica base r × KeepsBallots base r) node.replicas
  pub has : (base : Base) → Among base bases → is_member base.core.members node.me ≡ true → (r : ReplicaState) × (replica_of base.core.id node.replicas ≡ Some r)

-- what a client knows of a group: its members are those of its birth, and so is the node that is preferred, if there is one
pub record KnowsFixed (bases : List Base) (group : Draw) (known : Way) : Type 0 where
  pub base : Base
  pub among : Among base bases
  pub name : base.core.id ≡ group
  pub members : known.members ≡ base.core.members
  pub preferred : (node : ℕ) → known.preferred ≡ Some node → is_member base.core.members node ≡ true

-- a client that knows these groups alone, each as at its birth
abbrev pub IsFixedClient : List Base → Client → Type 0
IsFixedClient bases client = Each (λ (entry : Draw × Way). KnowsFixed bases entry.0 entry.1) client.known
