-- The names that stand in what groups keep and send: names of groups, of children and of transactions. Each definition says that all of them are of one kind K, such as 'drawn so far'.
use Rattle.std.specs.Prelude.{ℕ, List, Option, Some, None}
use Rattle.sc_base.specs.Definitions.{Each}
use Rattle.sc_node_table.specs.Values.{Draw, Body, Offer, Watch, Command, Noop, Call, Join, Leave, Split, Begin, Prepared, RecordVote, GiveUp, Finish, Watched, RecordWatch, Core, Lock, Free, Coordinating, Promised, Watching, Effect, Route, OrderRefusal, OrderResult, Heard, No, Outcome, Past, Vote, AnswerBody, Mail, MailBody, Request, Answer, Prepare, Promise, Accept, Accepted, Nack, Learn, Ask, Install, TxPrepare, TxVote, TxOutcome, TxElsewhere, TxWatch, TxWatched, Told, Flight, Report, Node, Client}
use Rattle.sc_client_table.specs.table.TableDefinitions.{Client as ClientState}
use Rattle.sc_words.specs.declared.commands.bodies.Body.TheVariants as At
use Rattle.sc_words.specs.declared.commands.effects.Effect.TheVariants as Was
use Rattle.sc_words.specs.declared.commands.orders.OrderRefusal.TheVariants as Why
use Rattle.sc_words.specs.declared.commands.orders.OrderResult.TheVariants as Results
use Rattle.sc_words.specs.declared.commands.votes.No.TheVariants as Because
use Rattle.sc_words.specs.declared.commands.votes.Outcome.TheVariants as Is
use Rattle.sc_words.specs.declared.commands.votes.Past.TheVariants as Cast
use Rattle.sc_words.specs.declared.commands.votes.Vote.TheVariants as Says
use Rattle.sc_mail.specs.declared.bodies.AnswerBody.TheVariants as Answers
use Rattle.sc_node_table.specs.NodeDefinitions.{NodeState, ReplicaState}
use Rattle.sc_meaning.specs.sound.SoundDefinitions.{Player}

-- a statement holds of the value, if there is one
abbrev pub Opt : {X : Type 0} → (X → Type 0) → Option X → Type 0
Opt P None = Unit {0}
Opt P (Some x) = P x

-- ---- names in transactions

-- all names in a transaction's body, the child of a split, are of kind K
abbrev pub BodyNames : (Draw → Type 0) → Body → Type 0
BodyNames K At.Merge = Unit {0}
BodyNames K (At.Repart at) = Unit {0}
BodyNames K (At.Migrate node) = Unit {0}
BodyNames K (At.Split at child) = K child

-- all names in an offer to a participant are of kind K
pub record OfferNames (K : Draw → Type 0) (offer : Offer) : Type 0 where
  pub coord : K offer.coord
  pub part : K offer.part
  pub body : BodyNames K offer.body

-- all names in what a watcher is asked are of kind K
pub record WatchNames (K : Draw → Type 0) (watch : Watch) : Type 0 where
  pub coord : K watch.coord
  pub part : K watch.part
  pub old : K watch.old
  pub next : K watch.next.group

-- all names in the reason of a No are of kind K
abbrev pub NoNames : (Draw → Type 0) → No → Type 0
NoNames K (Because.Busy tx) = K tx
NoNames K Because.Gone = Unit {0}
NoNames K Because.Apart = Unit {0}
NoNames K (Because.TooMany n) = Unit {0}

-- all names in a participant's vote are of kind K
abbrev pub VoteNames : (Draw → Type 0) → Vote → Type 0
VoteNames K (Says.Yes frozen) = K frozen.succ.group
VoteNames K (Says.No why) = NoNames K why

-- all names in a vote that a group remembers are of kind K
abbrev pub PastNames : (Draw → Type 0) → Past → Type 0
PastNames K Cast.Yes = Unit {0}
PastNames K (Cast.No why) = NoNames K why
PastNames K Cast.Ended = Unit {0}

-- all names in an outcome are of kind K
abbrev pub OutcomeNames : (Draw → Type 0) → Outcome → Type 0
OutcomeNames K Is.Abort = Unit {0}
OutcomeNames K (Is.Merged into) = K into.group
OutcomeNames K (Is.Moved at gift) = Unit {0}
OutcomeNames K (Is.Migrated node) = Unit {0}
OutcomeNames K Is.Divided = Unit {0}

-- all names in what a coordinator heard of its participant are of kind K
abbrev pub HeardNames : (Draw → Type 0) → Option Heard → Type 0
HeardNames K heard = Opt (λ (h : Heard). K h.frozen.succ.group) heard

-- ---- names in groups

-- all names in a lock are of kind K
abbrev pub LockNames : (Draw → Type 0) → Lock → Type 0
LockNames K Free = Unit {0}
LockNames K (Coordinating tx body order heard) = K tx × BodyNames K body × HeardNames K heard
LockNames K (Promised tx offer) = K tx × OfferNames K offer
LockNames K (Watching tx watch) = K tx × WatchNames K watch

-- all names in a group's record are of kind K
pub record CoreNames (K : Draw → Type 0) (core : Core) : Type 0 where
  pub id : K core.id
  pub succ : K core.succ.group
  pub pred : K core.pred.group
  pub lock : LockNames K core.lock
  pub decided : Each (λ (d : Draw × Outcome). K d.0 × OutcomeNames K d.1) core.decided
  pub voted : Each (λ (v : Draw × Past). K v.0 × PastNames K v.1) core.voted
  pub born : Each K core.born
  pub gone : Opt (λ (into : Route). K into.group) core.gone

-- all names in a command are of kind K: the child of a split, a transaction, and what the command says of it
abbrev pub CommandNames : (Draw → Type 0) → Command → Type 0
CommandNames K Noop = Unit {0}
CommandNames K (Call client seq op) = Unit {0}
CommandNames K (Join node order) = Unit {0}
CommandNames K (Leave node order) = Unit {0}
CommandNames K (Split at child order) = K child
CommandNames K (Begin tx body order) = K tx × BodyNames K body
CommandNames K (Prepared tx offer) = K tx × OfferNames K offer
CommandNames K (RecordVote tx vote by) = K tx × VoteNames K vote
CommandNames K (GiveUp tx) = K tx
CommandNames K (Finish tx outcome) = K tx × OutcomeNames K outcome
CommandNames K (Watched tx watch) = K tx × WatchNames K watch
CommandNames K (RecordWatch tx vote by) = K tx × PastNames K vote

-- all names in the reason why an order is refused are of kind K
abbrev pub RefusalNames : (Draw → Type 0) → OrderRefusal → Type 0
RefusalNames K (Why.NotLeader hint) = Unit {0}
RefusalNames K (Why.InTransaction tx) = K tx
RefusalNames K Why.NoNeighbour = Unit {0}
RefusalNames K Why.BadBoundary = Unit {0}
RefusalNames K (Why.TooManyMembers n) = Unit {0}
RefusalNames K Why.NotMember = Unit {0}
RefusalNames K Why.LastMember = Unit {0}
RefusalNames K Why.TxLimit = Unit {0}
RefusalNames K Why.IsMember = Unit {0}

-- all names in an entry's effect are of kind K
abbrev pub EffectNames : (Draw → Type 0) → Effect → Type 0
EffectNames K (Was.Done reply) = Unit {0}
EffectNames K (Was.Again reply) = Unit {0}
EffectNames K (Was.Stale last) = Unit {0}
EffectNames K (Was.NotMine arc succ) = K succ.group
EffectNames K (Was.Gone into) = K into.group
EffectNames K (Was.NoEffect tx) = K tx
EffectNames K Was.Idle = Unit {0}
EffectNames K Was.Changed = Unit {0}
EffectNames K (Was.Voted vote) = PastNames K vote
EffectNames K (Was.Decided outcome) = OutcomeNames K outcome
EffectNames K (Was.Refused why) = RefusalNames K why

-- ---- names in mail

-- all names in a result that the desk gets are of kind K
abbrev pub ResultNames : (Draw → Type 0) → OrderResult → Type 0
ResultNames K Results.Done = Unit {0}
ResultNames K Results.Committed = Unit {0}
ResultNames K Results.Aborted = Unit {0}
ResultNames K (Results.Refused why) = RefusalNames K why

-- all names in an answer to a client are of kind K
abbrev pub AnswerNames : (Draw → Type 0) → AnswerBody → Type 0
AnswerNames K (Answers.Value reply) = Unit {0}
AnswerNames K (Answers.NotLeader hint) = Unit {0}
AnswerNames K (Answers.NotMine arc succ) = K succ.group
AnswerNames K (Answers.Gone into) = K into.group
AnswerNames K (Answers.Stale last) = Unit {0}

-- all names in the reports of a promise are of kind K
abbrev pub ReportsNames : (Draw → Type 0) → List (Report Command) → Type 0
ReportsNames K reports = Each (λ (report : Report Command). CommandNames K report.value) reports

-- all names in the body of a mail are of kind K
abbrev pub BodiesNames : (Draw → Type 0) → MailBody → Type 0
BodiesNames K (Request group client seq op) = K group
BodiesNames K (Answer group seq answer) = K group × AnswerNames K answer
BodiesNames K (Prepare group ballot from_slot) = K group
BodiesNames K (Promise group ballot reports) = K group × ReportsNames K reports
BodiesNames K (Accept group ballot slot command) = K group × CommandNames K command
BodiesNames K (Accepted group ballot slot) = K group
BodiesNames K (Nack group promised) = K group
BodiesNames K (Learn group slot command) = K group × CommandNames K command
BodiesNames K (Ask group from_slot) = K group
BodiesNames K (Install group slot base sets) = K group × CoreNames K base.core
BodiesNames K (TxPrepare tx offer) = K tx × OfferNames K offer
BodiesNames K (TxVote tx coord part vote) = K tx × K coord × K part × VoteNames K vote
BodiesNames K (TxOutcome tx part outcome) = K tx × K part × OutcomeNames K outcome
BodiesNames K (TxElsewhere tx coord hint) = K tx × K coord
BodiesNames K (TxWatch tx watch) = K tx × WatchNames K watch
BodiesNames K (TxWatched tx coord part vote) = K tx × K coord × K part × PastNames K vote
BodiesNames K (Told order result) = ResultNames K result

-- all names in a mail are of kind K
pub record MailNames (K : Draw → Type 0) (mail : Mail) : Type 0 where
  pub body : BodiesNames K mail.body

-- ---- names in players

-- all names in what a replica holds are of kind K: in its group's record, its log, what it accepted, the reports that its leader got, what is in flight, what is ready, and what is queued
pub record HeldNames (K : Draw → Type 0) (of : Core) (entries : List Command) (voted recorded : List (Report Command)) (flying : List (Flight Command)) (counted : List (ℕ × Command)) (parties others : List Command) : Type 0 where
  pub core : CoreNames K of
  pub log : Each (CommandNames K) entries
  pub accepted : ReportsNames K voted
  pub reports : ReportsNames K recorded
  pub flights : Each (λ (flight : Flight Command). CommandNames K flight.value) flying
  pub ready : Each (λ (e : ℕ × Command). CommandNames K e.1) counted
  pub acts : Each (CommandNames K) parties
  pub backlog : Each (CommandNames K) others

-- all names in a replica are of kind K
abbrev pub ReplicaNames : (Draw → Type 0) → ReplicaState → Type 0
ReplicaNames K r = HeldNames K r.group.core r.log.entries r.acceptor.accepted r.leader.reports r.leader.flights r.ready r.acts r.backlog

-- all names in the replicas of a node are of kind K
abbrev pub NodeNames : (Draw → Type 0) → NodeState → Type 0
NodeNames K node = Each (ReplicaNames K) node.replicas

-- all names that a client keeps are of kind K: of the groups that it knows, and of the one that it asked
pub record ClientNames (K : Draw → Type 0) (client : ClientState) : Type 0 where
  pub known : Each (λ entry. K entry.0) client.known
  pub asked : Opt (λ (asked : Draw × ℕ). K asked.0) client.asked

-- all names that a player keeps are of kind K
abbrev pub PlayerNames : (Draw → Type 0) → Player → Type 0
PlayerNames K (Node node) = NodeNames K node
PlayerNames K (Client client) = ClientNames K client
