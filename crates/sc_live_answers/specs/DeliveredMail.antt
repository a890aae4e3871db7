-- A mail that comes to a node in a journal in which its group is well led, and what the mail needs besides, by its kind.
use Rattle.std.specs.Prelude.{◌≡◌, ℕ, ◌+◌, true, false, List, [], Option, Some, None}
use Rattle.sc_node_table.specs.Values.{Ballot, Draw, Base, Mail, MailBody, Request, Answer, Prepare, Promise, Accept, Accepted, Nack, Learn, Ask, Install, TxPrepare, TxVote, TxOutcome, TxElsewhere, TxWatch, TxWatched, Told, Node, Seat, Deliver}
use Rattle.sc_actor.specs.Definitions.{value}
use Rattle.sc_live_orderly.specs.OrderlyDefinitions.{AreInTime}
use Rattle.sc_node_table.specs.NodeDefinitions.{NodeState, ReplicaState}
use Rattle.sc_meaning.specs.sound.SoundDefinitions.{Player, player_table}
use Rattle.sc_live_steps.specs.calm.CalmDefinitions.{players, MayCount, MayAskThere, Points, Ways, Rows}
use Rattle.sc_live_steps.specs.following.FollowingDefinitions.{Course, Sets, SlotLeaders}
use Rattle.sc_live_journals.specs.rows.RowDefinitions.{IsSeat, with_event}
use Rattle.sc_live_journals.specs.groups.GroupDefinitions.{IsLedStep, Ends, IsWellLed, Delivers, HasOneLog, IsSentSo}

-- in a prefix of a journal a mail is delivered in time to a node; before the row its group is well led in a course from which the row goes on, it has one log, its mail is as `IsSentSo` says, and a state that the mail brings is of a group that stands
pub record MeetsMail (at : Sets) (over : Ends) (by : SlotLeaders) (words : ℕ → ℕ → ℕ × ℕ) (births : List (Seat Player)) (prefix rows : Rows) (seat : Seat Player) (number : ℕ) (mail : Mail) (node : NodeState) (base : Base) (course : Course) : Type 0 where
  pub seated : IsSeat births seat
  pub fact : value player_table seat rows ≡ Node node
  pub delivers : Delivers prefix rows seat number mail
  pub timely : AreInTime (players words births) (with_event rows seat (Deliver number))
  pub led : IsWellLed at over by words births rows base course
  pub step : IsLedStep at over by words births rows seat (Deliver number) base course
  pub one : HasOneLog at over by births prefix base
  pub sent : IsSentSo births prefix base
  pub standing : (slot : ℕ) (state : Base) (sets : List (List ℕ)) → mail.body ≡ Install base.core.id slot state sets → over (slot + 1) ≡ false

-- a replica that does not run keeps no reports of promises
abbrev pub IsPlain : ReplicaState → Type 0
IsPlain r = r.running ≡ false → r.leader.reports ≡ []

-- what a replica that takes a mail has to be besides, by the mail's kind: where it may pump, as `IsPlain` says; where it sends others on, its hint is nearer to the replica that runs; and a leader that takes a vote may count it
abbrev pub NeedsBesides : Ways → ReplicaState → MailBody → Type 0
NeedsBesides ways r (Request group client seq op) = IsPlain r × Points ways group r
NeedsBesides ways r (Prepare group ballot from_slot) = Unit {0}
NeedsBesides ways r (Promise group ballot reports) = IsPlain r
NeedsBesides ways r (Accept group ballot slot command) = Unit {0}
NeedsBesides ways r (Accepted group ballot slot) = r.running ≡ true → MayCount slot r
NeedsBesides ways r (Nack group promised) = Unit {0}
NeedsBesides ways r (Learn group slot command) = Unit {0}
NeedsBesides ways r (Ask group from_slot) = Unit {0}
NeedsBesides ways r (Install group slot state sets) = Unit {0}
NeedsBesides ways r (TxPrepare tx offer) = IsPlain r × Points ways offer.part r × (ways.asked_group tx ≡ Some (offer.part, false))
NeedsBesides ways r (TxVote tx coord part vote) = IsPlain r
NeedsBesides ways r (TxOutcome tx part outcome) = IsPlain r
NeedsBesides ways r (TxElsewhere tx coord hint) = MayAskThere ways tx r hint
NeedsBesides ways r (TxWatch tx watch) = IsPlain r × Points ways watch.part r × (ways.asked_group tx ≡ Some (watch.part, true))
NeedsBesides ways r (TxWatched tx coord part vote) = IsPlain r
NeedsBesides ways r (Answer group seq answer) = Unit {0}
NeedsBesides ways r (Told order result) = Unit {0}

-- the mail is no request
abbrev pub IsNoRequest : MailBody → Type 0
IsNoRequest (Request group client seq op) = ⊥
IsNoRequest body = Unit {0}

-- what a mail needs besides at a node: as `NeedsBesides` says where the node has a replica of the group; where it has none, the mail is no request
abbrev pub NeedsAt : Ways → Option ReplicaState → MailBody → Type 0
NeedsAt ways None body = IsNoRequest body
NeedsAt ways (Some r) body = NeedsBesides ways r body

-- mail of Paxos that needs nothing besides: Prepare, Accept, Nack, Learn, Ask and Install
abbrev pub IsAgreed : MailBody → Type 0
IsAgreed (Request group client seq op) = ⊥
IsAgreed (Prepare group ballot from_slot) = Unit {0}
IsAgreed (Promise group ballot reports) = ⊥
IsAgreed (Accept group ballot slot command) = Unit {0}
IsAgreed (Accepted group ballot slot) = ⊥
IsAgreed (Nack group promised) = Unit {0}
IsAgreed (Learn group slot command) = Unit {0}
IsAgreed (Ask group from_slot) = Unit {0}
IsAgreed (Install group slot state sets) = Unit {0}
IsAgreed (TxPrepare tx offer) = ⊥
IsAgreed (TxVote tx coord part vote) = ⊥
IsAgreed (TxOutcome tx part outcome) = ⊥
IsAgreed (TxElsewhere tx coord hint) = ⊥
IsAgreed (TxWatch tx watch) = ⊥
IsAgreed (TxWatched tx coord part vote) = ⊥
IsAgreed (Answer group seq answer) = ⊥
IsAgreed (Told order result) = ⊥

-- mail by which a leader only offers what it has queued: a Promise, and the votes and outcomes of transactions
abbrev pub IsPumped : MailBody → Type 0
IsPumped (Request group client seq op) = ⊥
IsPumped (Prepare group ballot from_slot) = ⊥
IsPumped (Promise group ballot reports) = Unit {0}
IsPumped (Accept group ballot slot command) = ⊥
IsPumped (Accepted group ballot slot) = ⊥
IsPumped (Nack group promised) = ⊥
IsPumped (Learn group slot command) = ⊥
IsPumped (Ask group from_slot) = ⊥
IsPumped (Install group slot state sets) = ⊥
IsPumped (TxPrepare tx offer) = ⊥
IsPumped (TxVote tx coord part vote) = Unit {0}
IsPumped (TxOutcome tx part outcome) = Unit {0}
IsPumped (TxElsewhere tx coord hint) = ⊥
IsPumped (TxWatch tx watch) = ⊥
IsPumped (TxWatched tx coord part vote) = Unit {0}
IsPumped (Answer group seq answer) = ⊥
IsPumped (Told order result) = ⊥

-- a replica, if there is one, is as `IsPlain` says
abbrev pub IsPlainAt : Option ReplicaState → Type 0
IsPlainAt None = Unit {0}
IsPlainAt (Some r) = IsPlain r

-- a replica, if there is one and it runs, may count a vote at this slot
abbrev pub MayCountAt : ℕ → Option ReplicaState → Type 0
MayCountAt slot None = Unit {0}
MayCountAt slot (Some r) = r.running ≡ true → MayCount slot r

-- what mail needs besides, by its kind: nothing for that of `IsAgreed`, a plain replica for that of `IsPumped`, and for a vote that a leader may count it
pub record NeedsByKind : Type 0 where
  pub agreed : (ways : Ways) (here : Option ReplicaState) (body : MailBody) → IsAgreed body → NeedsAt ways here body
  pub pumped : (ways : Ways) (here : Option ReplicaState) (body : MailBody) → IsPumped body → IsPlainAt here → NeedsAt ways here body
  pub vote : (ways : Ways) (here : Option ReplicaState) (group : Draw) (ballot : Ballot) (slot : ℕ) → MayCountAt slot here → NeedsAt ways here (Accepted group ballot slot)
