-- What holds of each replica and each node of a plain journal: clients go and mail is delivered, and nothing else happens.
use Rattle.std.specs.Prelude.{◌≡◌, ℕ, ◌+◌, ◌<◌, ◌≤◌, nat_le, nat_lt, ◌==◌, ◌&&◌, true, false, List, [], length, map, count_by, Some, ◌⊎◌, if◌then◌else◌}
use Rattle.std.specs.FinMap.{get}
use Rattle.sc_base.specs.Definitions.{Among, Each, votes_of, is_majority, is_member}
use Rattle.sc_node_table.specs.Values.{Noted, Op, Command, MailBody, Request, Answer, Prepare, Promise, Accept, Accepted, Nack, Learn, Ask, Install, TxPrepare, TxVote, TxOutcome, TxElsewhere, TxWatch, TxWatched, Told, Flight}
use Rattle.sc_words.specs.declared.paxos.answers.Must.TheVariants.{Free as Open}
use Rattle.sc_words.specs.paxos.PaxosDefinitions.{IsAtLeast, must, kept_voters}
use Rattle.sc_group_table.specs.machine.MachineDefinitions.{Group}
use Rattle.sc_node_table.specs.NodeDefinitions.{NodeState, replica_of, ReplicaState, name_of, next, may_offer, slots_ahead, numbers_from}
use Rattle.sc_live_plain.specs.Frames.{Frame}
use Rattle.sc_live_plain.specs.PlainMail.{Requests, IsWrittenValue, IsPlainCommand}

-- the executed state of a replica: its record is that of the frame, each request that it has noted of a client is begun, and each value that it has stored or noted in a reply was written by a begun request
pub record IsPlainGroup (begun : Requests) (frame : Frame) (group : Group) : Type 0 where
  pub core_is : group.core ≡ frame.core
  pub noted : (client : ℕ) (note : Noted) → get group.clients client ≡ Some note → (op : Op) × begun client note.seq op
  pub replied : (client : ℕ) (note : Noted) → get group.clients client ≡ Some note → (value : List ℕ) → note.reply.old ≡ Some value → IsWrittenValue begun value
  pub stored : (key value : List ℕ) → get group.pairs key ≡ Some value → IsWrittenValue begun value

-- how many commands are in flight or ready at a slot
abbrev pub takers : ReplicaState → ℕ → ℕ
takers r slot = count_by (λ flight. flight.slot == slot) r.leader.flights + count_by (λ entry. entry.0 == slot) r.ready

-- exactly the first `taken` slots from the next one on have a command in flight or ready, one each; `taken` is at most the number of open slots
pub record AreTaken (r : ReplicaState) (taken : ℕ) : Type 0 where
  pub most : taken ≤ slots_ahead
  pub once : (slot : ℕ) → takers r slot ≡ (if nat_le (next r) slot && nat_lt slot (next r + taken) then 1 else 0)

-- a command in flight is a request of a client; its counted voters are members of its slot, each counted once, and they are no majority of them
pub record IsPlainFlight (begun : Requests) (frame : Frame) (flight : Flight Command) : Type 0 where
  pub is_call : IsPlainCommand begun frame flight.value
  pub voters_are : length (kept_voters flight.voters) ≤ votes_of (frame.at flight.slot) (kept_voters flight.voters)
  pub undecided : is_majority (frame.at flight.slot) (kept_voters flight.voters) ≡ false

-- the replica that leads: it runs in the frame's ballot, may offer any command at the slots from its next one on, has only requests queued, in flight and ready, and has commands at `taken` slots
pub record IsPlainLeader (begun : Requests) (frame : Frame) (taken : ℕ) (r : ReplicaState) : Type 0 where
  pub running : r.running ≡ true
  pub ballot_is : r.leader.ballot ≡ frame.ballot
  pub may : (slot : ℕ) → may_offer r (frame.at slot) ≡ true
  pub open_ : (slot : ℕ) → next r ≤ slot → must slot r.leader ≡ Open
  pub backlog : Each (IsPlainCommand begun frame) r.backlog
  pub flights : Each (IsPlainFlight begun frame) r.leader.flights
  pub ready : Each (λ entry. IsPlainCommand begun frame entry.1) r.ready
  pub slots : AreTaken r taken

-- a replica that does not lead: it does not run, and has nothing queued, in flight or ready
pub record IsPlainFollower (r : ReplicaState) : Type 0 where
  pub stopped : r.running ≡ false
  pub backlog : r.backlog ≡ []
  pub flights : r.leader.flights ≡ []
  pub ready : r.ready ≡ []

-- a replica that may vote: it takes the frame's leading node for the leader, and has seen and promised no later ballot than the frame's
pub record IsPlainVoter (frame : Frame) (me : ℕ) (r : ReplicaState) : Type 0 where
  pub me_is : r.me ≡ me
  pub name_is : name_of r ≡ frame.core.id
  pub hint_is : r.hint ≡ Some frame.lead
  pub top_low : IsAtLeast frame.ballot r.top
  pub promised_low : IsAtLeast frame.ballot r.acceptor.promised
  pub floor_low : r.acceptor.floor < next r

-- what holds of each replica at a member of the group: its state and member lists are the frame's, it may vote, it waits for no transaction, and it has no act queued
pub record IsPlainReplica (begun : Requests) (frame : Frame) (me : ℕ) (r : ReplicaState) : Type 0 where
  pub me_is : r.me ≡ me
  pub group : IsPlainGroup begun frame r.group
  pub hint_is : r.hint ≡ Some frame.lead
  pub top_low : IsAtLeast frame.ballot r.top
  pub promised_low : IsAtLeast frame.ballot r.acceptor.promised
  pub floor_low : r.acceptor.floor < next r
  pub begins : frame.from ≤ next r
  pub sets_are : r.sets ≡ map frame.at (numbers_from (next r) slots_ahead)
  pub acts : r.acts ≡ []
  pub waits : r.waits ≡ 0

-- a leader at the end of a row: no command at its next slot is ready, and no request is queued unless all open slots are taken
pub record HasOffered (taken : ℕ) (r : ReplicaState) : Type 0 where
  pub executed : count_by (λ entry. entry.0 == next r) r.ready ≡ 0
  pub offered : (r.backlog ≡ []) ⊎ (taken ≡ slots_ahead)

-- the leading replica at the end of a row: it leads with some number of slots taken, and has executed and offered what it could
pub record IsLeading (begun : Requests) (frame : Frame) (r : ReplicaState) : Type 0 where
  pub taken : ℕ
  pub leader : IsPlainLeader begun frame taken r
  pub done : HasOffered taken r

-- a replica at the end of a row: at the leading node it leads, at another node it has nothing queued, in flight or ready
abbrev pub IsSettled : Requests → Frame → ℕ → ReplicaState → Type 0
IsSettled begun frame me r = ((me ≡ frame.lead) × IsLeading begun frame r) ⊎ ((me ≡ frame.lead → ⊥) × IsPlainFollower r)

-- a replica at a node that has left the group: it has nothing queued, in flight or ready, and may vote at the slots that still name its node
pub record HasLeft (frame : Frame) (me : ℕ) (r : ReplicaState) : Type 0 where
  pub left : is_member frame.core.members me ≡ false
  pub follower : IsPlainFollower r
  pub voter : (slot : ℕ) → is_member (frame.at slot) me ≡ true → IsPlainVoter frame me r

-- a replica of a group at the end of a row, either at a member of the group or at a node that has left it
abbrev pub IsPlainAt : Requests → Frame → ℕ → ReplicaState → Type 0
IsPlainAt begun frame me r = (IsPlainReplica begun frame me r × IsSettled begun frame me r) ⊎ HasLeft frame me r

-- a node whose replicas of these groups are as `IsPlainAt` says, and which has a replica of each group at whose slots it votes
pub record IsPlainNode (begun : Requests) (frames : List Frame) (node : NodeState) : Type 0 where
  pub replicas : (frame : Frame) (r : ReplicaState) → Among frame frames → replica_of frame.core.id node.replicas ≡ Some r → IsPlainAt begun frame node.me r
  pub has : (frame : Frame) (slot : ℕ) → Among frame frames → is_member (frame.at slot) node.me ≡ true → (r : ReplicaState) × (replica_of frame.core.id node.replicas ≡ Some r)

-- a mail comes when it is due at a replica: an Accept for a slot that the replica has not executed, or a Learn of the replica's next slot; all other mail is always due
abbrev pub IsDue : ReplicaState → MailBody → Type 0
IsDue r (Accept group ballot slot command) = next r ≤ slot
IsDue r (Learn group slot command) = slot ≡ next r
IsDue r (Request group client seq op) = Unit {0}
IsDue r (Answer group seq answer) = Unit {0}
IsDue r (Prepare group ballot from_slot) = Unit {0}
IsDue r (Promise group ballot reports) = Unit {0}
IsDue r (Accepted group ballot slot) = Unit {0}
IsDue r (Nack group promised) = Unit {0}
IsDue r (Ask group from_slot) = Unit {0}
IsDue r (Install group slot base sets) = Unit {0}
IsDue r (TxPrepare tx offer) = Unit {0}
IsDue r (TxVote tx coord part vote) = Unit {0}
IsDue r (TxOutcome tx part outcome) = Unit {0}
IsDue r (TxElsewhere tx coord hint) = Unit {0}
IsDue r (TxWatch tx watch) = Unit {0}
IsDue r (TxWatched tx coord part vote) = Unit {0}
IsDue r (Told order result) = Unit {0}
