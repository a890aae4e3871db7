-- What a replica does with a Request, a Learn, an Ask, an Install and a tick, and its transition table.
use Rattle.std.specs.Prelude.{ℕ, zero, suc, ◌+◌, ◌-◌, ◌==◌, ◌&&◌, ◌||◌, not, nat_lt, nat_le, false, Bool, List, [], ◌∷◌, ◌++◌, length, filter, if◌then◌else◌, Option, Some, None, is_some}
use Rattle.sc_base.specs.declared.ops.Op.{Op}
use Rattle.sc_words.specs.ideal.IdealDefinitions.{key_of, holds_key}
use Rattle.sc_words.specs.declared.commands.links.Route.{Route}
use Rattle.sc_base.specs.declared.names.Draw.{Draw}
use Rattle.sc_base.specs.Definitions.{Drawer, is_member}
use Rattle.sc_words.specs.declared.commands.cores.Core.{Core}
use Rattle.sc_words.specs.declared.commands.commands.Command.{Command}
use Rattle.sc_words.specs.declared.commands.commands.Command.TheVariants.{Call}
use Rattle.sc_words.specs.declared.commands.cores.Base.{Base}
use Rattle.sc_mail.specs.declared.bodies.AnswerBody.{AnswerBody}
use Rattle.sc_mail.specs.declared.bodies.AnswerBody.TheVariants as Says
use Rattle.sc_mail.specs.declared.bodies.MailBody.{MailBody}
use Rattle.sc_mail.specs.declared.bodies.MailBody.TheVariants.{Request, Answer, Prepare, Promise, Accept, Accepted, Nack, Learn, Ask, Install, TxPrepare, TxVote, TxOutcome, TxElsewhere, TxWatch, TxWatched, Told}
use Rattle.sc_mail.specs.declared.bodies.Mail.{Mail}
use Rattle.sc_words.specs.paxos.PaxosDefinitions.{entry_at, has_counted}
use Rattle.sc_node_table.specs.declared.ReplicaInput.{ReplicaInput}
use Rattle.sc_node_table.specs.declared.ReplicaInput.TheVariants as Given
use Rattle.sc_node_table.specs.Replica.{ReplicaState, Place, Executed, childless, name_of, next, members, settled, flying, is_idle, last_slot, installed_replica}
use Rattle.sc_node_table.specs.Mails.{sent, sent_all, sent_others, answer_to}
use Rattle.sc_node_table.specs.Queues.{queued_number, without_request}
use Rattle.sc_node_table.specs.Election.{elected, stopped}
use Rattle.sc_node_table.specs.Execute.{executed, looked}
use Rattle.sc_node_table.specs.Install.{install_to, named, jumped}
use Rattle.sc_node_table.specs.Pump.{pumped, admits_requests}
use Rattle.sc_node_table.specs.Transactions.{offer_row, watch_row, vote_row, watched_row, elsewhere_row, outcome_row}
use Rattle.sc_node_table.specs.Reminders.{reminded}
use Rattle.sc_node_table.specs.Ordering.{ordered_row, names_after}
use Rattle.sc_node_table.specs.Policy.{wishing, names_after_tick}
use Rattle.sc_node_table.specs.Voting.{prepare_row, promise_row, accept_row, accepted_row, nack_row}

-- why a request is not queued, if so: the first that holds of a group that is gone, a replica that does not run, and a key of another group
abbrev pub request_refusal : Option Route → Core → Bool → Option ℕ → Op → Option AnswerBody
request_refusal (Some into) core running hint op = Some (Says.Gone into)
request_refusal None core running hint op =
    if not running then Some (Says.NotLeader hint)
    else if admits_requests core.lock && not (holds_key core.arc (key_of op)) then Some (Says.NotMine core.arc core.succ)
    else None

-- why a request is not queued at a replica, if so
abbrev pub refused_at : Option Route → Op → ReplicaState → Option AnswerBody
refused_at gone op r = request_refusal gone r.group.core r.running r.hint op

-- a request is queued last, and the pump is tried, unless the same or a later request of its client is queued; an earlier one is removed
unfoldable pub queued : Option ℕ → ℕ → ℕ → Op → Place → Place
queued None client seq op (r, mails) = pumped (record r { backlog = r.backlog ++ Call client seq op ∷ [] }, mails)
queued (Some other) client seq op (r, mails) =
    if nat_le seq other then (r, mails)
    else pumped (record r { backlog = without_request r.backlog client ++ Call client seq op ∷ [] }, mails)

-- a request is queued, or its client gets the reason why not
unfoldable pub requested : Option AnswerBody → ℕ → ℕ → Op → Place → Place
requested (Some answer) client seq op (r, mails) = (r, answer_to r.me (name_of r) client seq answer mails)
requested None client seq op (r, mails) = queued (queued_number r.backlog client) client seq op (r, mails)

-- what a replica does with a Request
unfoldable pub request_row : ℕ → ℕ → Op → Place → Place
request_row client seq op (r, mails) = requested (refused_at r.group.core.gone op r) client seq op (r, mails)

-- what a replica does with a Learn: it executes the command of the next slot, and for a later slot asks for those from the next one on (Paxos Made Simple, section 2.3)
unfoldable pub learn_row : ℕ → ℕ → Command → Place → Executed
learn_row from slot command (r, mails) =
    if nat_lt last_slot slot then childless (r, mails)
    else if slot == next r then executed false command (r, mails)
    else if nat_lt (next r) slot then childless (r, sent r.me from (Ask (name_of r) (next r)) mails)
    else childless (r, mails)

-- the most entries that are sent in answer to an Ask
abbrev pub most_taught : ℕ
most_taught = 32

-- at most `count` entries that the log holds are sent, from a slot on
unfoldable pub taught : ℕ → ReplicaState → ℕ → ℕ → List Mail → List Mail
taught zero r from slot mails = mails
taught (suc count) r from slot mails =
    elim (entry_at slot r.log) [ None ↦ mails | Some command ↦ taught count r from (slot + 1) (sent r.me from (Learn (name_of r) slot command) mails) ]

-- an Ask is answered with entries from a slot on, where the log holds it, and else with the executed state
abbrev pub ask_answered : Option Command → ℕ → ℕ → Place → Place
ask_answered None from slot place = install_to from place
ask_answered (Some command) from slot (r, mails) = (r, taught most_taught r from slot mails)

-- what a replica does with an Ask: it answers one for an executed slot or for slot 0
unfoldable pub ask_row : ℕ → ℕ → Place → Place
ask_row from slot (r, mails) = if nat_lt slot (next r) then ask_answered (entry_at slot r.log) from slot (r, mails) else (r, mails)

-- the sender of a state is taken for the leader if it is a member, and else a leader is looked for
unfoldable pub looked_up : ℕ → Place → Place
looked_up from (r, mails) = if is_member (members r) from then (record r { hint = Some from }, mails) else looked (r, mails)

-- a replica takes over a state; it stops first, where it runs, with the sender for the leader
unfoldable pub took_over : ℕ → ℕ → Base → List (List ℕ) → Place → Place
took_over from slot base sets (r, mails) =
    let place1 : Place = if r.running then stopped (Some from) (r, mails) else (r, mails) in
    looked_up from (jumped slot base sets place1.0, place1.1)

-- what a replica does with an Install: it takes over the state after a slot that it has not executed, if it comes with the members of as many slots as are open
unfoldable pub install_row : ℕ → ℕ → Base → List (List ℕ) → Place → Place
install_row from slot base sets (r, mails) =
    if not (length sets == length r.sets) || (nat_lt last_slot slot || nat_lt slot (next r)) then (r, mails)
    else took_over from slot base sets (r, mails)

-- a replica made of an Install for a group of which the node has none
unfoldable pub made_by : ℕ → ℕ → Draw → ℕ → Base → List (List ℕ) → Place
made_by me from group slot base sets = looked_up from (installed_replica me slot (named group base) sets, [])

-- the members of a slot whose vote was not counted
abbrev pub uncounted : ReplicaState → ℕ → List ℕ → List ℕ
uncounted r slot set = filter (λ node. not (has_counted slot node r.leader)) set

-- Accept is sent again for each slot in flight, to each of its members whose vote was not counted
unfoldable pub asked_again : ReplicaState → ℕ → List (List ℕ) → List Mail → List Mail
asked_again r slot [] mails = mails
asked_again r slot (set ∷ sets) mails =
    elim (flying r slot) [
      | None ↦ asked_again r (slot + 1) sets mails
      | Some command ↦ asked_again r (slot + 1) sets (sent_all r.me (uncounted r slot set) (Accept (name_of r) r.leader.ballot slot command) mails)
    ]

-- the last entry, if the log holds it, is sent by Learn to each other member
unfoldable pub last_entry_sent : Option Command → ReplicaState → List Mail → List Mail
last_entry_sent None r mails = mails
last_entry_sent (Some command) r mails = sent_others r.me (members r) (Learn (name_of r) (next r - 1) command) mails

-- what a replica does at a tick: one that is not settled runs for leader; a settled one sends again what is not answered, or the last entry where nothing is under way, reminds the parties of a transaction, queues what a policy wishes, and tries the pump. One whose group is gone, or whose node is no member, does nothing
unfoldable pub tick_row : Bool → Drawer → Place → Place
tick_row on drawer (r, mails) =
    if is_some r.group.core.gone || not (is_member (members r) r.me) then (r, mails)
    else if not (settled r) then elected (r, mails)
    else if is_idle r then pumped (wishing on drawer (reminded (r, last_entry_sent (entry_at (next r - 1) r.log) r mails)))
    else pumped (wishing on drawer (reminded (r, asked_again r (next r) r.sets mails)))

-- what a replica does with a mail; a mail of any other body changes nothing. Only a counted vote and a learnt command execute entries
unfoldable pub mailed : ℕ → MailBody → Place → Executed
mailed from (Request group client seq op) place = childless (request_row client seq op place)
mailed from (Prepare group ballot from_slot) place = childless (prepare_row from ballot from_slot place)
mailed from (Promise group ballot reports) place = childless (promise_row from ballot reports place)
mailed from (Accept group ballot slot command) place = childless (accept_row from ballot slot command place)
mailed from (Accepted group ballot slot) place = accepted_row from ballot slot place
mailed from (Nack group promised) place = childless (nack_row promised place)
mailed from (Learn group slot command) place = learn_row from slot command place
mailed from (Ask group from_slot) place = childless (ask_row from from_slot place)
mailed from (Install group slot base sets) place = childless (install_row from slot base sets place)
mailed from (Answer group seq answer) place = childless place
mailed from (TxPrepare tx offer) place = childless (offer_row from tx offer place)
mailed from (TxVote tx coord part vote) place = childless (vote_row from tx part vote place)
mailed from (TxOutcome tx part outcome) place = childless (outcome_row tx outcome place)
mailed from (TxElsewhere tx coord hint) place = childless (elsewhere_row from tx hint place)
mailed from (TxWatch tx watch) place = childless (watch_row from tx watch place)
mailed from (TxWatched tx coord part vote) place = childless (watched_row from tx part vote place)
mailed from (Told order result) place = childless place

-- the transition table of a replica, with whether its node has a policy, and the generator of its node's names
unfoldable pub stepped : Bool → Drawer → ReplicaInput → Place → Executed
stepped on drawer (Given.Got mail) place = mailed mail.from mail.body place
stepped on drawer Given.Tick place = childless (tick_row on drawer place)
stepped on drawer (Given.Told line) place = childless (ordered_row drawer line place)

-- the names that are left after a step of a replica
abbrev pub names_left : Bool → Drawer → ReplicaInput → ReplicaState → Drawer
names_left on drawer (Given.Got mail) r = drawer
names_left on drawer Given.Tick r = names_after_tick on drawer r
names_left on drawer (Given.Told line) r = names_after drawer line r
