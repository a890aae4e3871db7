-- Inputs that a node or one of its replicas passes by: nothing is sent or queued for them and nothing of them is copied, so they take no memory.
use Rattle.std.specs.Prelude.{◌≡◌, ℕ, ◌≤◌, ◌==◌, ◌||◌, ◌&&◌, nat_lt, not, Bool, true, false, List, [], length, Option, Some, None}
use Rattle.sc_actor.specs.declared.rows.Input.{Input}
use Rattle.sc_actor.specs.declared.rows.Input.TheVariants.{Got, Tick, Go, Told}
use Rattle.sc_base.specs.declared.names.Ballot.{Ballot}
use Rattle.sc_words.specs.declared.commands.orders.OrderLine.{OrderLine}
use Rattle.sc_mail.specs.declared.bodies.Mail.{Mail}
use Rattle.sc_base.specs.declared.names.Draw.{Draw}
use Rattle.sc_words.specs.declared.commands.commands.Command.{Command}
use Rattle.sc_words.specs.declared.commands.votes.Past.TheVariants as Cast
use Rattle.sc_words.specs.declared.commands.votes.Outcome.{Outcome}
use Rattle.sc_words.specs.declared.commands.votes.Past.{Past}
use Rattle.sc_words.specs.declared.commands.votes.Vote.{Vote}
use Rattle.sc_words.specs.declared.commands.votes.Vote.TheVariants as Says
use Rattle.sc_mail.specs.declared.bodies.MailBody.{MailBody}
use Rattle.sc_mail.specs.declared.bodies.MailBody.TheVariants.{Request, Prepare, Promise, Accept, Accepted, Nack, Learn, Ask, Install, Answer, TxPrepare, TxVote, TxOutcome, TxElsewhere, TxWatch, TxWatched, Told as ToldMail}
use Rattle.sc_words.specs.declared.paxos.answers.Counted.{Counted}
use Rattle.sc_words.specs.declared.paxos.answers.Counted.TheVariants.{Chosen, NotYet}
use Rattle.sc_words.specs.paxos.Votes.{counted}
use Rattle.sc_node_table.specs.Slots.{slots_ahead}
use Rattle.sc_node_table.specs.Replica.{ReplicaState, next, settled, set_at, last_slot}
use Rattle.sc_node_table.specs.Queues.{queued_number}
use Rattle.sc_node_table.specs.Rows.{refused_at}
use Rattle.sc_node_table.specs.Voting.{leads}
use Rattle.sc_node_table.specs.Transactions.{standing_vote, awaits_vote, awaits_watch, is_bound, noted_outcome, elsewhere_row}
use Rattle.sc_node_table.specs.Pump.{pumped}
use Rattle.sc_node_table.specs.Reminders.{reminders}
use Rattle.sc_node_table.specs.Node.{NodeState, absent, may_come, group_of_mail, replica_of}
use Rattle.sc_node_replica.specs.Again.{repeated}
use Rattle.sc_node_parts.specs.transactions.Quiet.{coordinates}
use Rattle.sc_node_replica.specs.IdleInputs.{IsRoundPassedBy}

-- a request whose client has the same or a later one in the queue
abbrev pub IsWaiting : Option ℕ → ℕ → Type 0
IsWaiting None seq = ⊥
IsWaiting (Some other) seq = seq ≤ other

-- whether a count of votes has no majority yet
abbrev pub is_short : Counted Command → Bool
is_short (Chosen command) = false
is_short (NotYet count) = true

-- whether a vote makes no command ready, at a slot with these members or at one that is not open
abbrev pub readies_none : ℕ → Ballot → ℕ → Option (List ℕ) → ReplicaState → Bool
readies_none from ballot slot None r = true
readies_none from ballot slot (Some set) r = is_short (counted from ballot slot set r.leader).0

-- whether a learnt command is ignored: its slot is executed already, or is above the last slot
abbrev pub is_learnt : ℕ → ReplicaState → Bool
is_learnt slot r = nat_lt last_slot slot || nat_lt slot (next r)

-- whether a vote is answered with the outcome: a Yes is, where the outcome is noted
abbrev pub asks_outcome : Vote → Option Outcome → Bool
asks_outcome (Says.Yes frozen) (Some outcome) = true
asks_outcome (Says.Yes frozen) None = false
asks_outcome (Says.No why) outcome = false

-- whether a watcher's vote is answered with the outcome: a Yes is, where the outcome is noted
abbrev pub watcher_asks : Past → Option Outcome → Bool
watcher_asks Cast.Yes (Some outcome) = true
watcher_asks Cast.Yes None = false
watcher_asks (Cast.No why) outcome = false
watcher_asks Cast.Ended outcome = false

-- a mail that a replica passes by: nothing is sent or queued for it, and nothing of it is copied
abbrev pub IsPassedBy : ℕ → MailBody → ReplicaState → Type 0
IsPassedBy from (Request group client seq op) r = (refused_at r.group.core.gone op r ≡ None) × IsWaiting (queued_number r.backlog client) seq
IsPassedBy from (Prepare group ballot from_slot) r = ⊥
IsPassedBy from (Promise group ballot reports) r = IsRoundPassedBy (Promise group ballot reports) r
IsPassedBy from (Accept group ballot slot command) r = ⊥
IsPassedBy from (Accepted group ballot slot) r = (leads ballot r && not (readies_none from ballot slot (set_at slot r) r)) ≡ false
IsPassedBy from (Nack group promised) r = IsRoundPassedBy (Nack group promised) r
IsPassedBy from (Learn group slot command) r = is_learnt slot r ≡ true
IsPassedBy from (Ask group from_slot) r = IsRoundPassedBy (Ask group from_slot) r
IsPassedBy from (Install group slot base sets) r = IsRoundPassedBy (Install group slot base sets) r
IsPassedBy from (Answer group seq answer) r = Unit {0}
IsPassedBy from (TxPrepare tx offer) r = standing_vote r.group.core tx ≡ Some Cast.Ended
IsPassedBy from (TxVote tx coord part vote) r = (asks_outcome vote (noted_outcome r.group.core tx) || (r.running && awaits_vote r.group.core.lock tx)) ≡ false
IsPassedBy from (TxOutcome tx part outcome) r = (r.running && is_bound r.group.core.lock tx) ≡ false
IsPassedBy from (TxElsewhere tx coord hint) r = (elsewhere_row from tx hint (r, [])).1 ≡ []
IsPassedBy from (TxWatch tx watch) r = standing_vote r.group.core tx ≡ Some Cast.Ended
IsPassedBy from (TxWatched tx coord part vote) r = (watcher_asks vote (noted_outcome r.group.core tx) || (r.running && awaits_watch r.group.core.lock tx)) ≡ false
IsPassedBy from (ToldMail order result) r = Unit {0}

-- a mail that a node passes by where it has no replica of the mail's group
abbrev pub IsUnknownPassedBy : ℕ → ℕ → MailBody → Type 0
IsUnknownPassedBy me from (Install group slot base sets) = (not (length sets == slots_ahead) || nat_lt last_slot slot) ≡ true
IsUnknownPassedBy me from body = absent me from body ≡ []

-- a mail that a node passes by where this is its replica of the mail's group, if it has one
abbrev pub IsPassedByOne : Option ReplicaState → ℕ → ℕ → MailBody → Type 0
IsPassedByOne None me from body = IsUnknownPassedBy me from body
IsPassedByOne (Some r) me from body = IsPassedBy from body r

-- a mail that a node passes by where the mail is for this group, or for none
abbrev pub IsRoutedBy : Option Draw → ℕ → MailBody → NodeState → Type 0
IsRoutedBy None from body node = Unit {0}
IsRoutedBy (Some group) from body node = IsPassedByOne (replica_of group node.replicas) node.me from body

-- a mail that a node passes by: one that may not come from its sender, one for no group, and one that the replica of its group passes by, or the node where it has no such replica
abbrev pub IsMailPassedBy : ℕ → MailBody → NodeState → Type 0
IsMailPassedBy from body node = may_come from body ≡ true → IsRoutedBy (group_of_mail body) from body node

-- an input that a node passes by: the start, a tick of a node without replicas, and a mail that it passes by. An order is always answered or queued
abbrev pub IsInputPassedBy : Input Mail OrderLine → NodeState → Type 0
IsInputPassedBy (Got mail) node = IsMailPassedBy mail.from mail.body node
IsInputPassedBy Tick node = node.replicas ≡ []
IsInputPassedBy (Told line) node = ⊥
IsInputPassedBy Go node = Unit {0}

-- a tick at which a settled replica on a node without a policy has nothing to send and nothing to offer
pub record IsIdleTick (on : Bool) (r : ReplicaState) : Type 0 where
  pub is_settled : settled r ≡ true
  pub without_policy : on ≡ false
  pub nothing_reported : repeated r [] ≡ []
  pub nothing_bound : coordinates r.group.core.lock ≡ false
  pub nobody_reminded : reminders r.group.core.lock r.me r.group [] ≡ []
  pub nothing_offered : pumped (r, []) ≡ (r, [])
