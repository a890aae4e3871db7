-- What a policy wishes for a group at a tick is queued like an order, with the number 0. Its result is not reported. Scatter, SOSP 2011, policies.
use Rattle.std.specs.Prelude.{◌==◌, ◌&&◌, ◌||◌, not, Bool, true, false, length, if◌then◌else◌, Option, Some, None, is_some}
use Rattle.std.specs.FinMap.{entries}
use Rattle.std.specs.Option.{option_map}
use Rattle.sc_base.specs.Definitions.{Drawer, next_name, is_member}
use Rattle.sc_words.specs.declared.commands.commands.Command.{Command}
use Rattle.sc_words.specs.declared.commands.cores.Lock.{Lock}
use Rattle.sc_words.specs.declared.commands.cores.Lock.TheVariants.{Free, Coordinating, Promised, Watching}
use Rattle.sc_words.specs.declared.commands.orders.Order.{Order}
use Rattle.sc_words.specs.declared.commands.orders.OrderLine.{OrderLine}
use Rattle.sc_words.specs.declared.commands.orders.OrderRefusal.{OrderRefusal}
use Rattle.sc_group_table.specs.policy.PolicyDefinitions.{wished_order}
use Rattle.sc_node_table.specs.Replica.{ReplicaState, Place, members, settled, is_idle}
use Rattle.sc_node_table.specs.Queues.{with_order_queued}
use Rattle.sc_node_table.specs.Reminders.{waited_in}
use Rattle.sc_node_table.specs.Ordering.{ordered_command, untaken, names_after}

-- whether a group is in no transaction
abbrev pub is_free : Lock → Bool
is_free Free = true
is_free (Coordinating tx body order heard) = false
is_free (Promised tx offer) = false
is_free (Watching tx watch) = false

-- whether a replica is at rest: nothing is in flight or ready, nothing is queued, and its group is in no transaction
abbrev pub is_at_rest : ReplicaState → Bool
is_at_rest r = is_idle r && (length r.acts == 0) && (length r.backlog == 0) && is_free r.group.core.lock

-- the order of a policy, whose number is 0
abbrev pub policy_line : Order → OrderLine
policy_line order = record { number = 0; order = order }

-- the order that a policy, if it is on, makes for a group whose replica is at rest
abbrev pub wished_line : Bool → ReplicaState → Option OrderLine
wished_line on r =
    if on && is_at_rest r then option_map policy_line (wished_order r.group.core (entries r.group.pairs)) else None

-- the replica with a command queued last, unless it is refused
abbrev pub with_command : Option OrderRefusal → Command → ReplicaState → ReplicaState
with_command (Some why) command r = r
with_command None command r = with_order_queued command r

-- the replica with an order of a policy queued, if it is accepted; a refusal is not reported
abbrev pub with_line : Drawer → Option OrderLine → ReplicaState → ReplicaState
with_line drawer None r = r
with_line drawer (Some line) r = with_command (untaken drawer line r) (ordered_command (next_name drawer) line.number line.order) r

-- the names that are left after an order of a policy
abbrev pub names_with : Drawer → Option OrderLine → ReplicaState → Drawer
names_with drawer None r = drawer
names_with drawer (Some line) r = names_after drawer line r

-- what a policy wishes is queued, if anything
unfoldable pub wishing : Bool → Drawer → Place → Place
wishing on drawer (r, mails) = (with_line drawer (wished_line on r) r, mails)

-- the names that are left after a tick: only a settled replica of a member makes an order of a policy
abbrev pub names_after_tick : Bool → Drawer → ReplicaState → Drawer
names_after_tick on drawer r =
    if is_some r.group.core.gone || not (is_member (members r) r.me) then drawer
    else if not (settled r) then drawer
    else names_with drawer (wished_line on (waited_in r.group.core.lock r)) (waited_in r.group.core.lock r)
