-- Execute: what a replica does with the command of its next slot, which it has counted as leader or has learnt (Paxos Made Simple, sections 2.3 and 3).
use Rattle.std.specs.Prelude.{ℕ, ◌+◌, ◌==◌, ◌&&◌, ◌||◌, not, filter, nat_lt, Bool, true, false, List, [], ◌∷◌, ◌++◌, length, if◌then◌else◌, Option, Some, None}
use Rattle.sc_words.specs.declared.commands.links.Route.{Route}
use Rattle.sc_words.specs.declared.commands.commands.Command.{Command}
use Rattle.sc_words.specs.declared.commands.commands.Command.TheVariants.{Noop, Call, Join, Leave, Split, Begin, Prepared, RecordVote, GiveUp, Finish, Watched, RecordWatch}
use Rattle.sc_words.specs.declared.commands.cores.Base.{Base}
use Rattle.sc_words.specs.declared.commands.effects.Effect.{Effect}
use Rattle.sc_words.specs.declared.commands.effects.Effect.TheVariants as Was
use Rattle.sc_mail.specs.declared.bodies.AnswerBody.{AnswerBody}
use Rattle.sc_mail.specs.declared.bodies.AnswerBody.TheVariants as Says
use Rattle.sc_mail.specs.declared.bodies.MailBody.TheVariants.{Learn}
use Rattle.sc_words.specs.declared.commands.orders.OrderResult.{OrderResult}
use Rattle.sc_words.specs.commands.CommandDefinitions.{result_of}
use Rattle.sc_base.specs.Definitions.{is_member, least_of}
use Rattle.sc_words.specs.paxos.PaxosDefinitions.{LogState, learnt, next_of, without_flight_at}
use Rattle.sc_group_table.specs.machine.MachineDefinitions.{child_by, applied}
use Rattle.sc_node_table.specs.Slots.{rest_of, at_slot, without_slot}
use Rattle.sc_node_table.specs.Replica.{ReplicaState, Place, Executed, childless, name_of, next, members, flying, last_slot, forgotten, waits_in}
use Rattle.sc_node_table.specs.Mails.{answer_to, sent_others, order_number, order_reported}
use Rattle.sc_node_table.specs.Queues.{put_back}
use Rattle.sc_node_table.specs.Sameness.{same_command}
use Rattle.sc_node_table.specs.Election.{elected, ended, stopped}
use Rattle.sc_node_table.specs.Pump.{pumped}
use Rattle.sc_node_table.specs.Install.{welcomed_all}
use Rattle.sc_node_table.specs.Spoken.{before_of, spoken}

-- the log with the entry of its next slot
abbrev pub with_entry : Command → LogState Command → LogState Command
with_entry command log = (learnt (next_of log) command log).1

-- the replica after the command is applied and logged: one more slot is open, whose members are those of the new state, and what is not above the floor is forgotten
unfoldable pub entered : Command → ReplicaState → ReplicaState
entered command r =
    let after = (applied r.group command).0 in
    forgotten (next r) (record r { group = after; log = with_entry command r.log; sets = rest_of r.sets ++ after.core.members ∷ []; waits = waits_in after.core.lock r.waits })

-- the answer to a request by its effect, or None where the request is queued again
abbrev pub answer_of : Effect → Option AnswerBody
answer_of (Was.Done reply) = Some (Says.Value reply)
answer_of (Was.Again reply) = Some (Says.Value reply)
answer_of (Was.Stale last) = Some (Says.Stale last)
answer_of (Was.NotMine arc succ) = Some (Says.NotMine arc succ)
answer_of (Was.Gone into) = Some (Says.Gone into)
answer_of (Was.NoEffect tx) = None
answer_of Was.Idle = None
answer_of Was.Changed = None
answer_of (Was.Voted vote) = None
answer_of (Was.Decided outcome) = None
answer_of (Was.Refused why) = None

-- the client of a counted request gets the answer, or the request is queued again where there is none
unfoldable pub answered_or_put_back : Option AnswerBody → Command → Place → Place
answered_or_put_back (Some answer) (Call client seq op) (r, mails) = (r, answer_to r.me (name_of r) client seq answer mails)
answered_or_put_back None (Call client seq op) (r, mails) = (put_back (Call client seq op) r, mails)
answered_or_put_back answer command place = place

-- the result of a join or a leave by its effect, which each replica that executes it reports; splits and transactions are reported elsewhere
abbrev pub order_result : Command → Effect → Option OrderResult
order_result (Join node order) effect = result_of effect
order_result (Leave node order) effect = result_of effect
order_result Noop effect = None
order_result (Call client seq op) effect = None
order_result (Split at child order) effect = None
order_result (Begin tx body order) effect = None
order_result (Prepared tx offer) effect = None
order_result (RecordVote tx vote by) effect = None
order_result (GiveUp tx) effect = None
order_result (Finish tx outcome) effect = None
order_result (Watched tx watch) effect = None
order_result (RecordWatch tx vote by) effect = None

-- the result, if there is one, is reported to the desk
unfoldable pub effect_reported : Option OrderResult → Command → Place → Place
effect_reported None command place = place
effect_reported (Some result) command (r, mails) = (r, order_reported r.me (order_number command) result mails)

-- the answer to a counted request and the result of an order are sent
unfoldable pub announced : Bool → Effect → Command → Place → Place
announced counted effect command place =
    effect_reported (order_result command effect) command (if counted then answered_or_put_back (answer_of effect) command place else place)

-- the members before a counted command learn the command
unfoldable pub learnt_to : Bool → List ℕ → ℕ → Command → Place → Place
learnt_to counted before slot command (r, mails) =
    if counted then (r, sent_others r.me before (Learn (name_of r) slot command) mails) else (r, mails)

-- each member that a counted command has added gets the state, and is asked to promise this leader's ballot
unfoldable pub welcomed : Bool → List ℕ → Place → Place
welcomed counted before (r, mails) =
    if counted then welcomed_all (filter (λ node. not (is_member before node)) (members r)) (r, mails) else (r, mails)

-- the replica after it has executed a command at a slot where it had another one in flight or ready: the other one is queued again, unless the executed one was counted or equals it
abbrev pub slot_lost : Bool → Command → Option Command → ReplicaState → ReplicaState
slot_lost counted command None r = r
slot_lost counted command (Some other) r = if counted || same_command other command then r else put_back other r

-- the replica without what it has in flight or ready at the executed slot
unfoldable pub landed : Bool → ℕ → Command → Place → Place
landed counted slot command (r, mails) =
    let over : ReplicaState = record r { leader = without_flight_at slot r.leader; ready = without_slot r.ready slot } in
    (slot_lost counted command (flying r slot) over, mails)

-- a replica that runs stops where the group is gone, or where its node is no member
abbrev pub left_gone : Option Route → Place → Place
left_gone (Some into) place = ended None (Says.Gone into) place
left_gone None (r, mails) = if is_member (members r) r.me then (r, mails) else stopped (Some (least_of (members r))) (r, mails)

-- a replica stops where it must; one that does not run stays as it is
unfoldable pub left : Place → Place
left (r, mails) = if r.running then left_gone r.group.core.gone (r, mails) else (r, mails)

-- whether there is a node and it is among these nodes
abbrev pub is_among : List ℕ → Option ℕ → Bool
is_among nodes None = false
is_among nodes (Some node) = is_member nodes node

-- a replica whose leader is no member takes the least member for the leader, and runs itself where it is that member; of a group that is gone no leader is looked for
abbrev pub looked_for : Option Route → Place → Place
looked_for (Some into) place = place
looked_for None (r, mails) =
    if is_among (members r) r.hint then (r, mails)
    else if least_of (members r) == r.me then elected (record r { hint = Some r.me }, mails)
    else (record r { hint = Some (least_of (members r)) }, mails)

-- a replica that does not run looks for a leader
unfoldable pub looked : Place → Place
looked (r, mails) = if r.running then (r, mails) else looked_for r.group.core.gone (r, mails)

-- the execution of one command, without the children and the ready commands that follow
unfoldable pub executed_one : Bool → Command → Place → Place
executed_one counted command (r, mails) =
    let effect = (applied r.group command).1 in
    let place1 = announced counted effect command (entered command r, mails) in
    let place2 = spoken counted (before_of r.group.core) effect command place1 in
    let place3 = learnt_to counted (members r) (next r) command place2 in
    let place4 = welcomed counted (members r) place3 in
    let place5 = landed counted (next r) command place4 in
    looked (left place5)

-- the child of an entry, if it makes one and the node is one of its members
abbrev pub child_at : ℕ → Option Base → List Base
child_at me None = []
child_at me (Some child) = if is_member child.core.members me then child ∷ [] else []

-- the child of the command that is executed next, if it makes one for this node
abbrev pub next_child : Command → ReplicaState → List Base
next_child command r = child_at r.me (child_by r.group command)

-- whether a counted command may be executed at the next slot: the slot is below the last slot plus the number of open slots, since the pump offers none above that
abbrev pub has_room : ReplicaState → Bool
has_room r = nat_lt (next r) (last_slot + length r.sets)

-- the ready command of the next slot, where the replica runs and may execute it
abbrev pub next_ready : ReplicaState → Option Command
next_ready r = if r.running && has_room r then at_slot r.ready (next r) else None

-- the end of an execution: the pump is tried, and the child that the execution made comes before those of the executions that followed
abbrev pub ending : List Base → Executed → Executed
ending made (place, children) = (pumped place, made ++ children)

-- the ready commands of the next slots are executed one after another; the list only bounds their number, since each execution takes one ready command away and adds none
unfoldable pub executed_ready : List (ℕ × Command) → Place → Executed
executed_ready [] place = childless place
executed_ready (e ∷ es) place =
    elim (next_ready place.0) [ None ↦ childless place | Some command ↦ ending (next_child command place.0) (executed_ready es (executed_one true command place)) ]

-- all ready commands of the next slots are executed
abbrev pub all_ready : Place → Executed
all_ready place = executed_ready place.0.ready place

-- Execute: the command is executed, and then the ready commands of the next slots
unfoldable pub executed : Bool → Command → Place → Executed
executed counted command place = ending (next_child command place.0) (all_ready (executed_one counted command place))
