-- Orders of all kinds: which are accepted, and the names that they take from the node.
use Rattle.std.specs.Prelude.{ℕ, Bool, true, false, ◌-◌, ◌^◌, ◌==◌, ◌&&◌, ◌||◌, not, if◌then◌else◌, Option, Some, None, is_some, is_none}
use Rattle.sc_base.specs.Definitions.{Drawer, next_name, drawn_on}
use Rattle.sc_base.specs.declared.names.Draw.{Draw}
use Rattle.sc_words.specs.declared.commands.bodies.Body.TheVariants as To
use Rattle.sc_words.specs.declared.commands.commands.Command.{Command}
use Rattle.sc_words.specs.declared.commands.commands.Command.TheVariants.{Join, Leave, Split, Begin}
use Rattle.sc_words.specs.declared.commands.orders.Order.{Order}
use Rattle.sc_words.specs.declared.commands.orders.Order.TheVariants as An
use Rattle.sc_words.specs.declared.commands.orders.OrderLine.{OrderLine}
use Rattle.sc_words.specs.declared.commands.orders.OrderRefusal.{OrderRefusal}
use Rattle.sc_words.specs.declared.commands.orders.OrderRefusal.TheVariants.{NotLeader}
use Rattle.sc_words.specs.declared.commands.orders.OrderResult.TheVariants.{Refused}
use Rattle.sc_group_table.specs.machine.MachineDefinitions.{refusal_of}
use Rattle.sc_node_table.specs.Replica.{ReplicaState, Place, settled}
use Rattle.sc_node_table.specs.Mails.{result_sent}
use Rattle.sc_node_table.specs.Queues.{with_order_queued}
use Rattle.sc_node_table.specs.Pump.{pumped}

-- the command of an order, with this name for its child or its transaction
abbrev pub ordered_command : Draw → ℕ → Order → Command
ordered_command name number (An.Join node group) = Join node number
ordered_command name number (An.Leave node group) = Leave node number
ordered_command name number (An.Split group at) = Split at name number
ordered_command name number (An.Merge group) = Begin name To.Merge number
ordered_command name number (An.Repart group at) = Begin name (To.Repart at) number
ordered_command name number (An.Migrate group node) = Begin name (To.Migrate node) number

-- whether an order takes a name
abbrev pub takes_name : Order → Bool
takes_name (An.Join node group) = false
takes_name (An.Leave node group) = false
takes_name (An.Split group at) = true
takes_name (An.Merge group) = true
takes_name (An.Repart group at) = true
takes_name (An.Migrate group node) = true

-- whether a node has no name left
abbrev pub has_drawn_all : Drawer → Bool
has_drawn_all drawer = drawer.next == 2 ^ 32 - 1

-- the refusal of an order that takes a name where the node has none left
abbrev pub named_refused : Drawer → Order → ReplicaState → Option OrderRefusal
named_refused drawer order r = if takes_name order && has_drawn_all drawer then Some (NotLeader r.hint) else None

-- the first refusal, if there is one, or else the second
abbrev pub first_of_both : Option OrderRefusal → Option OrderRefusal → Option OrderRefusal
first_of_both (Some why) other = Some why
first_of_both None other = other

-- why an order is not accepted, if so: NotLeader where the group is gone or the replica is not its settled leader, then what the group refuses, and then that no name is left
abbrev pub untaken : Drawer → OrderLine → ReplicaState → Option OrderRefusal
untaken drawer line r =
    if is_some r.group.core.gone || not (settled r) then Some (NotLeader r.hint)
    else first_of_both (refusal_of r.group.core (ordered_command (next_name drawer) line.number line.order)) (named_refused drawer line.order r)

-- an order that is accepted is queued last, and the pump is tried; a refusal is reported to the desk
abbrev pub queued_or_refused : Option OrderRefusal → ℕ → Command → Place → Place
queued_or_refused (Some why) number command (r, mails) = (r, result_sent r.me number (Refused why) mails)
queued_or_refused None number command (r, mails) = pumped (with_order_queued command r, mails)

-- what a replica does with an order
unfoldable pub ordered_row : Drawer → OrderLine → Place → Place
ordered_row drawer line (r, mails) =
    queued_or_refused (untaken drawer line r) line.number (ordered_command (next_name drawer) line.number line.order) (r, mails)

-- the names that are left after an order: an accepted order takes one, if its kind takes any
abbrev pub names_after : Drawer → OrderLine → ReplicaState → Drawer
names_after drawer line r = if takes_name line.order && is_none (untaken drawer line r) then drawn_on drawer else drawer
