-- What each mail of a plain journal says. In these definitions `begun` says which requests are begun, by client, number and operation.
use Rattle.std.specs.Prelude.{◌≡◌, ◌<◌, ℕ, true, false, List, Option, Some, None}
use Rattle.sc_base.specs.Definitions.{Among, client_actor, is_member}
use Rattle.sc_node_table.specs.Values.{Op, Get, Put, Del, Add, Cas, Command, Noop, Call, Join, Leave, Split, Begin, Prepared, RecordVote, GiveUp, Finish, Watched, RecordWatch, AnswerBody, Value, NotLeader, NotMine, Gone, Stale, Mail, MailBody, Request, Answer, Prepare, Promise, Accept, Accepted, Nack, Learn, Ask, Install, TxPrepare, TxVote, TxOutcome, TxElsewhere, TxWatch, TxWatched, Told}
use Rattle.sc_words.specs.ideal.IdealDefinitions.{key_of, holds_key}
use Rattle.sc_live_plain.specs.Frames.{Frame}

-- which requests are begun: a predicate of the client, the request's number and its operation
abbrev pub Requests : Type 1
Requests = ℕ → ℕ → Op → Type 0

-- the value that an operation writes, or None
abbrev pub written_by : Op → Option (List ℕ)
written_by (Get key) = None
written_by (Put key value) = Some value
written_by (Del key) = None
written_by (Add key value) = Some value
written_by (Cas key expect value) = Some value

-- a value that some begun request writes
pub record IsWrittenValue (begun : Requests) (value : List ℕ) : Type 0 where
  pub client : ℕ
  pub seq : ℕ
  pub op : Op
  pub is_begun : begun client seq op
  pub writes : written_by op ≡ Some value

-- a begun request whose key lies in the arc of the frame's group
pub record IsPlainCall (begun : Requests) (frame : Frame) (client seq : ℕ) (op : Op) : Type 0 where
  pub is_begun : begun client seq op
  pub held : holds_key frame.core.arc (key_of op) ≡ true

-- a command that is a call of a begun request whose key lies in the group's arc
abbrev pub IsPlainCommand : Requests → Frame → Command → Type 0
IsPlainCommand begun frame (Call client seq op) = IsPlainCall begun frame client seq op
IsPlainCommand begun frame Noop = ⊥
IsPlainCommand begun frame (Join node order) = ⊥
IsPlainCommand begun frame (Leave node order) = ⊥
IsPlainCommand begun frame (Split at child order) = ⊥
IsPlainCommand begun frame (Begin tx body order) = ⊥
IsPlainCommand begun frame (Prepared tx offer) = ⊥
IsPlainCommand begun frame (RecordVote tx vote by) = ⊥
IsPlainCommand begun frame (GiveUp tx) = ⊥
IsPlainCommand begun frame (Finish tx outcome) = ⊥
IsPlainCommand begun frame (Watched tx watch) = ⊥
IsPlainCommand begun frame (RecordWatch tx vote by) = ⊥

-- what an answer to a request may say: a reply, whose value was written by a begun request; NotMine with the group's arc and successor, where the arc does not hold the key; or Stale with the number of a later request of the client, which is begun
abbrev pub IsPlainAnswer : Requests → Frame → ℕ → ℕ → Op → AnswerBody → Type 0
IsPlainAnswer begun frame client seq op (Value reply) = (value : List ℕ) → reply.old ≡ Some value → IsWrittenValue begun value
IsPlainAnswer begun frame client seq op (NotMine arc succ) = (holds_key frame.core.arc (key_of op) ≡ false) × (arc ≡ frame.core.arc) × (succ ≡ frame.core.succ)
IsPlainAnswer begun frame client seq op (Stale last) = (seq < last) × ((later : Op) × begun client last later)
IsPlainAnswer begun frame client seq op (NotLeader hint) = ⊥
IsPlainAnswer begun frame client seq op (Gone into) = ⊥

-- a client sends a begun request to the node that leads the group
pub record IsPlainRequest (begun : Requests) (frame : Frame) (from to client seq : ℕ) (op : Op) : Type 0 where
  pub from_is : from ≡ client_actor client
  pub to_is : to ≡ frame.lead
  pub is_begun : begun client seq op

-- the node that leads the group answers the client of a begun request, as `IsPlainAnswer` says
pub record IsPlainReply (begun : Requests) (frame : Frame) (from to seq : ℕ) (answer : AnswerBody) : Type 0 where
  pub client : ℕ
  pub op : Op
  pub from_is : from ≡ frame.lead
  pub to_is : to ≡ client_actor client
  pub is_begun : begun client seq op
  pub says : IsPlainAnswer begun frame client seq op answer

-- the leader asks a node that decides the slot to accept a call there (Paxos Made Simple, section 2.2, phase 2a)
pub record IsPlainAccept (begun : Requests) (frame : Frame) (from to slot : ℕ) (command : Command) : Type 0 where
  pub from_is : from ≡ frame.lead
  pub to_in : is_member (frame.at slot) to ≡ true
  pub is_call : IsPlainCommand begun frame command

-- the leader sends a decided call to another member of the group (Paxos Made Simple, section 2.3)
pub record IsPlainLearn (begun : Requests) (frame : Frame) (from to : ℕ) (command : Command) : Type 0 where
  pub from_is : from ≡ frame.lead
  pub to_in : is_member frame.core.members to ≡ true
  pub other : to ≡ frame.lead → ⊥
  pub is_call : IsPlainCommand begun frame command

-- what a mail of the frame's group says, by its body: a request, an answer, an Accept, an Accepted or a Learn of the group; plain journals have no other mail
abbrev pub IsPlainBody : Requests → Frame → ℕ → ℕ → MailBody → Type 0
IsPlainBody begun frame from to (Request group client seq op) = (group ≡ frame.core.id) × IsPlainRequest begun frame from to client seq op
IsPlainBody begun frame from to (Answer group seq answer) = (group ≡ frame.core.id) × IsPlainReply begun frame from to seq answer
IsPlainBody begun frame from to (Accept group ballot slot command) = (group ≡ frame.core.id) × (ballot ≡ frame.ballot) × IsPlainAccept begun frame from to slot command
IsPlainBody begun frame from to (Accepted group ballot slot) = (group ≡ frame.core.id) × (ballot ≡ frame.ballot) × (to ≡ frame.lead) × (is_member (frame.at slot) from ≡ true)
IsPlainBody begun frame from to (Learn group slot command) = (group ≡ frame.core.id) × IsPlainLearn begun frame from to command
IsPlainBody begun frame from to (Prepare group ballot from_slot) = ⊥
IsPlainBody begun frame from to (Promise group ballot reports) = ⊥
IsPlainBody begun frame from to (Nack group promised) = ⊥
IsPlainBody begun frame from to (Ask group from_slot) = ⊥
IsPlainBody begun frame from to (Install group slot base sets) = ⊥
IsPlainBody begun frame from to (TxPrepare tx offer) = ⊥
IsPlainBody begun frame from to (TxVote tx coord part vote) = ⊥
IsPlainBody begun frame from to (TxOutcome tx part outcome) = ⊥
IsPlainBody begun frame from to (TxElsewhere tx coord hint) = ⊥
IsPlainBody begun frame from to (TxWatch tx watch) = ⊥
IsPlainBody begun frame from to (TxWatched tx coord part vote) = ⊥
IsPlainBody begun frame from to (Told order result) = ⊥

-- a mail of one of these groups, which says what `IsPlainBody` allows
pub record IsPlainMail (begun : Requests) (frames : List Frame) (mail : Mail) : Type 0 where
  pub frame : Frame
  pub is_frame : Among frame frames
  pub says : IsPlainBody begun frame mail.from mail.to mail.body
