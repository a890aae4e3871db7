-- The mails by which splits and transactions are reported and go on when an entry is executed. They are determined by the entry's effect, and by the group before and after the entry.
use Rattle.std.specs.Prelude.{ℕ, Bool, true, false, List, if◌then◌else◌, Option, Some, None}
use Rattle.std.specs.Option.{option_map}
use Rattle.sc_base.specs.declared.names.Draw.{Draw}
use Rattle.sc_words.specs.declared.commands.bodies.Body.{Body}
use Rattle.sc_words.specs.declared.commands.bodies.Body.TheVariants as At
use Rattle.sc_words.specs.declared.commands.bodies.Offer.{Offer}
use Rattle.sc_words.specs.declared.commands.bodies.Watch.{Watch}
use Rattle.sc_words.specs.declared.commands.commands.Command.{Command}
use Rattle.sc_words.specs.declared.commands.commands.Command.TheVariants.{Noop, Call, Join, Leave, Split, Begin, Prepared, RecordVote, GiveUp, Finish, Watched, RecordWatch}
use Rattle.sc_words.specs.declared.commands.cores.Core.{Core}
use Rattle.sc_words.specs.declared.commands.cores.Lock.{Lock}
use Rattle.sc_words.specs.declared.commands.cores.Lock.TheVariants.{Free, Coordinating, Promised, Watching}
use Rattle.sc_words.specs.declared.commands.effects.Effect.{Effect}
use Rattle.sc_words.specs.commands.CommandDefinitions.{result_of, refused_result, decided_in, cast_in, is_changed, is_alone}
use Rattle.sc_words.specs.declared.commands.links.Link.{Link}
use Rattle.sc_words.specs.declared.commands.orders.OrderResult.{OrderResult}
use Rattle.sc_words.specs.declared.commands.orders.OrderResult.TheVariants as Results
use Rattle.sc_words.specs.declared.commands.votes.Heard.{Heard}
use Rattle.sc_words.specs.declared.commands.votes.Outcome.{Outcome}
use Rattle.sc_words.specs.declared.commands.votes.Outcome.TheVariants as Is
use Rattle.sc_words.specs.declared.commands.votes.Past.{Past}
use Rattle.sc_words.specs.declared.commands.votes.Past.TheVariants as Cast
use Rattle.sc_words.specs.declared.commands.votes.Vote.{Vote}
use Rattle.sc_words.specs.declared.commands.votes.Vote.TheVariants as Says
use Rattle.sc_mail.specs.declared.bodies.Mail.{Mail}
use Rattle.sc_mail.specs.declared.bodies.MailBody.TheVariants.{TxPrepare, TxOutcome}
use Rattle.sc_base.specs.Definitions.{least_of}
use Rattle.sc_group_table.specs.machine.MachineDefinitions.{Group}
use Rattle.sc_node_table.specs.Replica.{Place}
use Rattle.sc_node_table.specs.Mails.{sent, sent_all, order_reported}
use Rattle.sc_node_table.specs.declared.Before.{Before}
use Rattle.sc_node_table.specs.Questions.{offer_of, asked_first}
use Rattle.sc_node_table.specs.Transactions.{voted_to, watched_to, outcome_sent}

-- ---- the group before an entry, as far as its mails need it

-- the node that sent the participant's Yes, and the successor of the participant, where a Yes is recorded
abbrev pub heard_from : Option Heard → Option (ℕ × Link)
heard_from None = None
heard_from (Some heard) = Some (heard.by, heard.frozen.succ)

-- whether a transaction is a merge
abbrev pub is_merge : Body → Bool
is_merge At.Merge = true
is_merge (At.Repart at) = false
is_merge (At.Migrate node) = false
is_merge (At.Split at child) = false

-- the group before an entry, where it coordinates no transaction
abbrev pub before_free : Core → Before
before_free core = record { alone = is_alone core; succ = core.succ; order = 0; merges = false; heard = None }

-- the group before an entry, by its lock
abbrev pub before_in : Lock → Core → Before
before_in Free core = before_free core
before_in (Coordinating tx body order heard) core = record { alone = is_alone core; succ = core.succ; order = order; merges = is_merge body; heard = heard_from heard }
before_in (Promised tx offer) core = before_free core
before_in (Watching tx watch) core = before_free core

-- the group before an entry, as far as its mails need it
abbrev pub before_of : Core → Before
before_of core = before_in core.lock core

-- ---- what is reported to the desk

-- the result of an order, by the outcome of its transaction
abbrev pub outcome_result : Outcome → OrderResult
outcome_result Is.Abort = Results.Aborted
outcome_result (Is.Merged into) = Results.Committed
outcome_result (Is.Moved at gift) = Results.Committed
outcome_result (Is.Migrated node) = Results.Committed
outcome_result Is.Divided = Results.Committed

-- the result of an order, where the entry has decided its transaction
abbrev pub decided_result : Effect → Option OrderResult
decided_result effect = option_map outcome_result (decided_in effect)

-- the result of the order of a split or a transaction, if the entry ends it: the split of a group that is alone, a refusal, or a decision
abbrev pub begun_result : Bool → Effect → Command → Option OrderResult
begun_result alone effect (Split at child order) = if alone then result_of effect else refused_result effect
begun_result alone effect (Begin tx body order) = refused_result effect
begun_result alone effect (RecordVote tx vote by) = decided_result effect
begun_result alone effect (GiveUp tx) = decided_result effect
begun_result alone effect (RecordWatch tx vote by) = decided_result effect
begun_result alone effect Noop = None
begun_result alone effect (Call client seq op) = None
begun_result alone effect (Join node order) = None
begun_result alone effect (Leave node order) = None
begun_result alone effect (Prepared tx offer) = None
begun_result alone effect (Finish tx outcome) = None
begun_result alone effect (Watched tx watch) = None

-- the number of the order that the entry may end: that of the command, or that of the transaction that the group coordinated
abbrev pub spoken_number : ℕ → Command → ℕ
spoken_number begun (Split at child order) = order
spoken_number begun (Begin tx body order) = order
spoken_number begun (RecordVote tx vote by) = begun
spoken_number begun (GiveUp tx) = begun
spoken_number begun (RecordWatch tx vote by) = begun
spoken_number begun Noop = 0
spoken_number begun (Call client seq op) = 0
spoken_number begun (Join node order) = 0
spoken_number begun (Leave node order) = 0
spoken_number begun (Prepared tx offer) = 0
spoken_number begun (Finish tx outcome) = 0
spoken_number begun (Watched tx watch) = 0

-- the result of an order, if there is one, is reported to the desk
abbrev pub result_reported : ℕ → Option OrderResult → ℕ → List Mail → List Mail
result_reported me None number mails = mails
result_reported me (Some result) number mails = order_reported me number result mails

-- each replica that executes the entry reports the result of the order that it ends, if it ends one
unfoldable pub begun_reported : ℕ → Before → Effect → Command → List Mail → List Mail
begun_reported me before effect command mails = result_reported me (begun_result before.alone effect command) (spoken_number before.order command) mails

-- ---- how a transaction goes on

-- a group that has locked for a split, or has recorded its participant's Yes to a merge, asks its watcher
abbrev pub asked_on : Effect → ℕ → Core → List Mail → List Mail
asked_on effect me core mails = if is_changed effect then asked_first core.lock me core mails else mails

-- a group that has begun a transaction sends its offer to the least member of its successor
abbrev pub begun_asks : Effect → ℕ → Core → Draw → Body → List Mail → List Mail
begun_asks effect me core tx body mails =
    if is_changed effect then sent me (least_of core.succ.members) (TxPrepare tx (offer_of me core body)) mails else mails

-- the vote of a participant, if the entry cast it, is sent to the node that asked
abbrev pub vote_sent : Option Past → ℕ → Group → Draw → Offer → List Mail → List Mail
vote_sent None me group tx offer mails = mails
vote_sent (Some vote) me group tx offer mails = voted_to me group offer.by tx offer vote mails

-- the vote of a watcher, if the entry cast it, is sent to the node that asked
abbrev pub watch_sent : Option Past → ℕ → Draw → Watch → List Mail → List Mail
watch_sent None me tx watch mails = mails
watch_sent (Some vote) me tx watch mails = watched_to me watch.by tx watch vote mails

-- an abort is sent to each member of a party
abbrev pub aborted_to : ℕ → Draw → Link → List Mail → List Mail
aborted_to me tx link mails = sent_all me link.members (TxOutcome tx link.group Is.Abort) mails

-- an abort is sent to the watcher, if the participant's Yes was recorded, so that the watcher was asked
abbrev pub aborted_watcher : ℕ → Draw → Option (ℕ × Link) → List Mail → List Mail
aborted_watcher me tx None mails = mails
aborted_watcher me tx (Some heard) mails = aborted_to me tx heard.1 mails

-- after a transaction is given up, an abort is sent to the successor, and to the watcher where it was asked after the participant
abbrev pub given_up_by : Option Outcome → ℕ → Before → Draw → List Mail → List Mail
given_up_by None me before tx mails = mails
given_up_by (Some outcome) me before tx mails = aborted_watcher me tx before.heard (aborted_to me tx before.succ mails)

-- what a participant's Yes has decided is sent to the node that sent the Yes
abbrev pub vote_answered : Option Outcome → Vote → ℕ → Before → Draw → ℕ → List Mail → List Mail
vote_answered None vote me before tx by mails = mails
vote_answered (Some outcome) (Says.Yes frozen) me before tx by mails = outcome_sent me by tx before.succ.group outcome mails
vote_answered (Some outcome) (Says.No why) me before tx by mails = mails

-- what a watcher's Yes has decided is sent to the node that sent the participant's Yes, and then to the one that sent the watcher's; of a split the successor is the watcher, and there is no participant
abbrev pub released_to : Option (ℕ × Link) → ℕ → Link → Draw → ℕ → Outcome → List Mail → List Mail
released_to None me succ tx by outcome mails = outcome_sent me by tx succ.group outcome mails
released_to (Some heard) me succ tx by outcome mails = outcome_sent me by tx heard.1.group outcome (outcome_sent me heard.0 tx succ.group outcome mails)

-- what a watcher's vote has decided is sent: of its No to a merge, an abort to the participant
abbrev pub watch_answered_by : Option Outcome → Past → ℕ → Before → Draw → ℕ → List Mail → List Mail
watch_answered_by None vote me before tx by mails = mails
watch_answered_by (Some outcome) Cast.Yes me before tx by mails = released_to before.heard me before.succ tx by outcome mails
watch_answered_by (Some outcome) (Cast.No why) me before tx by mails = if before.merges then aborted_to me tx before.succ mails else mails
watch_answered_by (Some outcome) Cast.Ended me before tx by mails = mails

-- the mails of a counted command of a transaction
unfoldable pub went_on : ℕ → Group → Before → Effect → Command → List Mail → List Mail
went_on me group before effect (Split at child order) mails = asked_on effect me group.core mails
went_on me group before effect (Begin tx body order) mails = begun_asks effect me group.core tx body mails
went_on me group before effect (Prepared tx offer) mails = vote_sent (cast_in effect) me group tx offer mails
went_on me group before effect (RecordVote tx vote by) mails = vote_answered (decided_in effect) vote me before tx by (asked_on effect me group.core mails)
went_on me group before effect (GiveUp tx) mails = given_up_by (decided_in effect) me before tx mails
went_on me group before effect (Watched tx watch) mails = watch_sent (cast_in effect) me tx watch mails
went_on me group before effect (RecordWatch tx vote by) mails = watch_answered_by (decided_in effect) vote me before tx by mails
went_on me group before effect (Finish tx outcome) mails = mails
went_on me group before effect Noop mails = mails
went_on me group before effect (Call client seq op) mails = mails
went_on me group before effect (Join node order) mails = mails
went_on me group before effect (Leave node order) mails = mails

-- each replica that executes the entry reports, and the one that has counted its votes makes the transaction go on
unfoldable pub spoken_mails : Bool → ℕ → Group → Before → Effect → Command → List Mail → List Mail
spoken_mails counted me group before effect command mails =
    let told = begun_reported me before effect command mails in
    if counted then went_on me group before effect command told else told

-- the mails that report and continue splits and transactions are sent; the replica does not change
unfoldable pub spoken : Bool → Before → Effect → Command → Place → Place
spoken counted before effect command (r, mails) = (r, spoken_mails counted r.me r.group before effect command mails)
