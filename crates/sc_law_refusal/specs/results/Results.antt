-- What the parts of a replica's table report of an order: what the entry that ends it has decided, or why it was refused.
use Rattle.std.specs.Prelude.{◌≡◌, ℕ, true, Bool, List, [], Option, None, Some, ◌⊎◌}
use Rattle.sc_base.specs.Definitions.{Among, Drawer, Each}
use Rattle.sc_node_table.specs.Values.{Draw, Body, Command, Noop, Call, Join, Leave, Split, Begin, Prepared, RecordVote, GiveUp, Finish, Watched, RecordWatch, Core, Coordinating, Route, OrderLine, OrderRefusal, OrderResult, Heard, Outcome, AnswerBody, Mail, MailBody, Request, Answer, Prepare, Promise, Accept, Accepted, Nack, Learn, Ask, Install, TxPrepare, TxVote, TxOutcome, TxElsewhere, TxWatch, TxWatched, Told}
use Rattle.sc_words.specs.declared.commands.effects.Effect.TheVariants as Was
use Rattle.sc_words.specs.declared.commands.orders.OrderRefusal.TheVariants.{NotLeader}
use Rattle.sc_words.specs.declared.commands.orders.OrderResult.TheVariants.{Done, Committed, Aborted, Refused}
use Rattle.sc_words.specs.declared.commands.votes.Outcome.TheVariants as Is
use Rattle.sc_words.specs.commands.CommandDefinitions.{is_alone}
use Rattle.sc_group_table.specs.machine.MachineDefinitions.{Group, applied, refusal_of}
use Rattle.sc_node_table.specs.NodeDefinitions.{ReplicaState, announced, before_of, ended, entered, ordered_row, spoken, result_sent, untaken}

-- ---- how an entry ends an order

-- the command is that of an order
abbrev pub IsOf : ℕ → Command → Type 0
IsOf number (Join node order) = order ≡ number
IsOf number (Leave node order) = order ≡ number
IsOf number (Split at child order) = order ≡ number
IsOf number (Begin tx body order) = order ≡ number
IsOf number Noop = ⊥
IsOf number (Call client seq op) = ⊥
IsOf number (Prepared tx offer) = ⊥
IsOf number (RecordVote tx vote by) = ⊥
IsOf number (GiveUp tx) = ⊥
IsOf number (Finish tx outcome) = ⊥
IsOf number (Watched tx watch) = ⊥
IsOf number (RecordWatch tx vote by) = ⊥

-- an order that a group carries out alone: a join, a leave, or the split of a group that is its own successor
abbrev pub IsAtOnce : Core → Command → Type 0
IsAtOnce core (Join node order) = Unit {0}
IsAtOnce core (Leave node order) = Unit {0}
IsAtOnce core (Split at child order) = is_alone core ≡ true
IsAtOnce core Noop = ⊥
IsAtOnce core (Call client seq op) = ⊥
IsAtOnce core (Begin tx body order) = ⊥
IsAtOnce core (Prepared tx offer) = ⊥
IsAtOnce core (RecordVote tx vote by) = ⊥
IsAtOnce core (GiveUp tx) = ⊥
IsAtOnce core (Finish tx outcome) = ⊥
IsAtOnce core (Watched tx watch) = ⊥
IsAtOnce core (RecordWatch tx vote by) = ⊥

-- an entry carries an order out in the group that it meets: it is the order's own, the group does it alone, and its effect is Changed
pub record CarriesOut (group : Group) (command : Command) (order : ℕ) : Type 0 where
  pub own : IsOf order command
  pub at_once : IsAtOnce group.core command
  pub effect : (applied group command).1 ≡ Was.Changed

-- an outcome by which a transaction is carried out: any but an abort
abbrev pub IsCommit : Outcome → Type 0
IsCommit Is.Abort = ⊥
IsCommit (Is.Merged into) = Unit {0}
IsCommit (Is.Moved at gift) = Unit {0}
IsCommit (Is.Migrated node) = Unit {0}
IsCommit Is.Divided = Unit {0}

-- an entry decides the transaction that the group coordinates for an order, by such an outcome
pub record DecidesFor (group : Group) (command : Command) (order : ℕ) (Such : Outcome → Type 0) : Type 0 where
  pub tx : Draw
  pub body : Body
  pub heard : Option Heard
  pub locked : group.core.lock ≡ Coordinating tx body order heard
  pub outcome : Outcome
  pub effect : (applied group command).1 ≡ Was.Decided outcome
  pub such : Such outcome

-- why a group refuses the command of an order: it is gone, or the first cause that it finds
abbrev pub FindsCause : Core → Command → OrderRefusal → Type 0
FindsCause core command why = ((into : Route) × (core.gone ≡ Some into) × (why ≡ NotLeader None)) ⊎ ((core.gone ≡ None) × (refusal_of core command ≡ Some why))

-- an entry, the order's own, is refused in the group that it meets, for the first cause
pub record RefusesOrder (group : Group) (command : Command) (order : ℕ) (why : OrderRefusal) : Type 0 where
  pub own : IsOf order command
  pub cause : FindsCause group.core command why
  pub effect : (applied group command).1 ≡ Was.Refused why

-- an entry ends an order with a result, in the group that it meets
abbrev pub EndsOrder : Group → Command → ℕ → OrderResult → Type 0
EndsOrder group command order Done = CarriesOut group command order
EndsOrder group command order Committed = DecidesFor group command order IsCommit
EndsOrder group command order Aborted = DecidesFor group command order (λ outcome. outcome ≡ Is.Abort)
EndsOrder group command order (Refused why) = RefusesOrder group command order why

-- ---- what is reported

-- a statement of the result that a mail reports, if it reports one
abbrev pub IfReported : (ℕ → OrderResult → Type 0) → MailBody → Type 0
IfReported Fact (Told order result) = Fact order result
IfReported Fact (Request group client seq op) = Unit {0}
IfReported Fact (Answer group seq answer) = Unit {0}
IfReported Fact (Prepare group ballot from_slot) = Unit {0}
IfReported Fact (Promise group ballot reports) = Unit {0}
IfReported Fact (Accept group ballot slot command) = Unit {0}
IfReported Fact (Accepted group ballot slot) = Unit {0}
IfReported Fact (Nack group promised) = Unit {0}
IfReported Fact (Learn group slot command) = Unit {0}
IfReported Fact (Ask group from_slot) = Unit {0}
IfReported Fact (Install group slot base sets) = Unit {0}
IfReported Fact (TxPrepare tx offer) = Unit {0}
IfReported Fact (TxVote tx coord part vote) = Unit {0}
IfReported Fact (TxOutcome tx part outcome) = Unit {0}
IfReported Fact (TxElsewhere tx coord hint) = Unit {0}
IfReported Fact (TxWatch tx watch) = Unit {0}
IfReported Fact (TxWatched tx coord part vote) = Unit {0}

-- each result that these mails report is so
abbrev pub ReportAs : (ℕ → OrderResult → Type 0) → List Mail → Type 0
ReportAs Fact mails = Each (λ (mail : Mail). IfReported Fact mail.body) mails

-- what a replica says of an entry that it executes, to clients, to the desk and to the parties of a transaction
abbrev pub said_of_entry : Bool → Command → ReplicaState → List Mail
said_of_entry counted command r =
    (spoken counted (before_of r.group.core) (applied r.group command).1 command (announced counted (applied r.group command).1 command (entered command r, []))).1

-- an order that waits at a replica is refused, since the replica does not lead
pub record IsGivenBack (r : ReplicaState) (hint : Option ℕ) (order : ℕ) (result : OrderResult) : Type 0 where
  pub command : Command
  pub queued : Among command r.backlog
  pub own : IsOf order command
  pub result_is : result ≡ Refused (NotLeader hint)

-- What each part of a replica's table that reports results reports.
pub record ReportsAreDecided : Type 0 where
  -- an entry ends an order with one result, so that all who execute it report the same
  pub once : (group : Group) (command : Command) (order : ℕ) (result other : OrderResult) → EndsOrder group command order result → EndsOrder group command order other → result ≡ other
  -- of an entry that it executes, how the entry ends an order in the group that it meets
  pub entries : (counted : Bool) (command : Command) (r : ReplicaState) → ReportAs (EndsOrder r.group command) (said_of_entry counted command r)
  -- where it stops, that it does not lead, of each order that waits
  pub queues : (hint : Option ℕ) (answer : AnswerBody) (r : ReplicaState) → ReportAs (IsGivenBack r hint) (ended hint answer (r, [])).1
  -- of an order that it does not take, the first cause, and no more
  pub orders : (drawer : Drawer) (line : OrderLine) (r : ReplicaState) (why : OrderRefusal) → untaken drawer line r ≡ Some why → ordered_row drawer line (r, []) ≡ (r, result_sent r.me line.number (Refused why) [])
