-- Pump: what a settled replica offers at its open slots (Paxos Made Simple, section 2.2, phase 2a, and section 3).
use Rattle.std.specs.Prelude.{◌≡◌, ℕ, ◌+◌, ◌&&◌, ◌||◌, not, nat_le, Bool, true, false, List, [], ◌∷◌, if◌then◌else◌, Option, Some, None, is_some}
use Rattle.std.specs.List.{list_any}
use Rattle.sc_base.specs.declared.ops.Op.{Op}
use Rattle.sc_words.specs.ideal.IdealDefinitions.{key_of, holds_key}
use Rattle.sc_words.specs.declared.commands.links.Route.{Route}
use Rattle.sc_words.specs.declared.commands.cores.Core.{Core}
use Rattle.sc_words.specs.declared.commands.cores.Lock.{Lock}
use Rattle.sc_words.specs.declared.commands.cores.Lock.TheVariants.{Free, Coordinating, Promised, Watching}
use Rattle.sc_words.specs.declared.commands.commands.Command.{Command}
use Rattle.sc_words.specs.declared.commands.commands.Command.TheVariants.{Noop, Call, Join, Leave, Split, Begin, Prepared, RecordVote, GiveUp, Finish, Watched, RecordWatch}
use Rattle.sc_mail.specs.declared.bodies.AnswerBody.{AnswerBody}
use Rattle.sc_mail.specs.declared.bodies.AnswerBody.TheVariants as Says
use Rattle.sc_mail.specs.declared.bodies.MailBody.TheVariants.{Accept}
use Rattle.sc_mail.specs.declared.bodies.Mail.{Mail}
use Rattle.sc_words.specs.declared.paxos.answers.Must.{Must}
use Rattle.sc_words.specs.declared.paxos.answers.Must.TheVariants.{Value, Gap, Free as Open}
use Rattle.sc_words.specs.paxos.PaxosDefinitions.{must, with_flight_at}
use Rattle.sc_node_table.specs.Replica.{Place, name_of, next, settled, may_offer, taken_at, under_way, is_idle, last_slot}
use Rattle.sc_node_table.specs.Mails.{sent_all, answered}

-- the command that is found for a slot, if there is one, and the place after the search
abbrev pub Found : Type 0
Found = Option Command × Place

-- whether a command is other than a request and a Noop; while such a command is under way nothing new is offered
abbrev pub is_act : Command → Bool
is_act Noop = false
is_act (Call client seq op) = false
is_act (Join node order) = true
is_act (Leave node order) = true
is_act (Split at child order) = true
is_act (Begin tx body order) = true
is_act (Prepared tx offer) = true
is_act (RecordVote tx vote by) = true
is_act (GiveUp tx) = true
is_act (Finish tx outcome) = true
is_act (Watched tx watch) = true
is_act (RecordWatch tx vote by) = true

-- whether a group with this lock serves requests
abbrev pub admits_requests : Lock → Bool
admits_requests Free = true
admits_requests (Watching tx watch) = true
admits_requests (Coordinating tx body order heard) = false
admits_requests (Promised tx offer) = false

-- whether the command at the head of the queue `backlog` must wait: every one for the lock, and an order also until nothing is under way
abbrev pub waits : Bool → Lock → Command → Bool
waits idle lock (Call client seq op) = not (admits_requests lock)
waits idle lock Noop = not (admits_requests lock) || not idle
waits idle lock (Join node order) = not (admits_requests lock) || not idle
waits idle lock (Leave node order) = not (admits_requests lock) || not idle
waits idle lock (Split at child order) = not (admits_requests lock) || not idle
waits idle lock (Begin tx body order) = not (admits_requests lock) || not idle
waits idle lock (Prepared tx offer) = not (admits_requests lock) || not idle
waits idle lock (RecordVote tx vote by) = not (admits_requests lock) || not idle
waits idle lock (GiveUp tx) = not (admits_requests lock) || not idle
waits idle lock (Finish tx outcome) = not (admits_requests lock) || not idle
waits idle lock (Watched tx watch) = not (admits_requests lock) || not idle
waits idle lock (RecordWatch tx vote by) = not (admits_requests lock) || not idle

-- the answer to a request that the group does not serve, or None where it serves it
abbrev pub refused_by : Option Route → Core → Op → Option AnswerBody
refused_by (Some into) core op = Some (Says.Gone into)
refused_by None core op = if holds_key core.arc (key_of op) then None else Some (Says.NotMine core.arc core.succ)

-- the answer to a command that gets no slot, or None where it may get one; only requests are answered so
abbrev pub turned_down : Core → Command → Option AnswerBody
turned_down core (Call client seq op) = refused_by core.gone core op
turned_down core Noop = None
turned_down core (Join node order) = None
turned_down core (Leave node order) = None
turned_down core (Split at child order) = None
turned_down core (Begin tx body order) = None
turned_down core (Prepared tx offer) = None
turned_down core (RecordVote tx vote by) = None
turned_down core (GiveUp tx) = None
turned_down core (Finish tx outcome) = None
turned_down core (Watched tx watch) = None
turned_down core (RecordWatch tx vote by) = None

-- the command at the head of the queue `backlog` that may get a slot, if there is one, with the rest of the queue and the mail; the requests before it that the group does not serve are answered without a slot
unfoldable pub next_queued : ℕ → Bool → Core → List Command → List Mail → Option Command × List Command × List Mail
next_queued me idle core [] mails = (None, [], mails)
next_queued me idle core (command ∷ backlog) mails =
    if waits idle core.lock command then (None, command ∷ backlog, mails)
    else elim (turned_down core command) [ None ↦ (Some command, backlog, mails) | Some answer ↦ next_queued me idle core backlog (answered me core.id answer command mails) ]

-- what is found in the queue `backlog`, from which the requests answered without a slot are removed
unfoldable pub from_backlog : Place → Found
from_backlog (r, mails) =
    let found = next_queued r.me (is_idle r) r.group.core r.backlog mails in
    (found.0, (record r { backlog = found.1 }, found.2))

-- what is found in the queues: the head of `acts`, but only while nothing is under way, and where `acts` is empty what is found in `backlog`
abbrev pub from_acts : List Command → Place → Found
from_acts [] place = from_backlog place
from_acts (act ∷ acts) (r, mails) = if is_idle r then (Some act, (record r { acts = acts }, mails)) else (None, (r, mails))

-- what is found in the queues, unless a command other than a request and a Noop is under way
unfoldable pub from_queues : Place → Found
from_queues (r, mails) = if list_any is_act (under_way r) then (None, (r, mails)) else from_acts r.acts (r, mails)

-- what is found for a slot, by what the leader must propose there: that value, a Noop for a gap, or else what is found in the queues
abbrev pub found_by : Must Command → Place → Found
found_by (Value command) place = (Some command, place)
found_by Gap place = (Some Noop, place)
found_by Open place = from_queues place

-- what is found for a slot
unfoldable pub found_for : ℕ → Place → Found
found_for slot (r, mails) = found_by (must slot r.leader) (r, mails)

-- a command is put in flight at a slot, and the members of the slot are asked to accept it (Paxos Made Simple, section 2.2, phase 2a)
unfoldable pub offered : ℕ → List ℕ → Command → Place → Place
offered slot set command (r, mails) =
    (record r { leader = with_flight_at slot command r.leader }, sent_all r.me set (Accept (name_of r) r.leader.ballot slot command) mails)

-- the pump at the open slots from this one on, each with its members: a slot with a command in flight or ready is passed over
unfoldable pub pumped_from : ℕ → List (List ℕ) → Place → Place
pumped_from slot [] place = place
pumped_from slot (set ∷ sets) place =
    if is_some (taken_at place.0 slot) then pumped_from (slot + 1) sets place
    else if may_offer place.0 set then (
    let found = found_for slot place in
    elim (found.0) [ None ↦ found.1 | Some command ↦ pumped_from (slot + 1) sets (offered slot set command found.1) ])
    else place

-- the pump: a settled replica offers at its open slots, where its next slot is not above the last slot
unfoldable pub pumped : Place → Place
pumped place = if settled place.0 && nat_le (next place.0) last_slot then pumped_from (next place.0) place.0.sets place else place

-- a replica is settled after the pump exactly where it was before, so testing it before each slot is testing it once
abbrev pub StaysSettled : Type 0
StaysSettled = (slot : ℕ) (sets : List (List ℕ)) (place : Place) → settled (pumped_from slot sets place).0 ≡ settled place.0
