-- The orders that a group's log executes: why one is refused, and what it makes of the group. Refusals have the numbers of docs/SCENARIOS.md, section Orders; of those that hold the one with the least number counts.
use Rattle.std.specs.Prelude.{ℕ, ◌==◌, ◌&&◌, ◌||◌, not, nat_le, length, if◌then◌else◌, Option, Some, None}
use Rattle.sc_base.specs.Definitions.{holds, end_of, is_member, with_member, without_member}
use Rattle.sc_base.specs.declared.names.Draw.{Draw}
use Rattle.sc_words.specs.declared.commands.bodies.Body.{Body}
use Rattle.sc_words.specs.declared.commands.bodies.Body.TheVariants as At
use Rattle.sc_words.specs.declared.commands.commands.Command.{Command}
use Rattle.sc_words.specs.declared.commands.commands.Command.TheVariants.{Noop, Call, Join, Leave, Split, Begin, Prepared, RecordVote, GiveUp, Finish, Watched, RecordWatch}
use Rattle.sc_words.specs.declared.commands.cores.Core.{Core}
use Rattle.sc_words.specs.declared.commands.cores.Lock.{Lock}
use Rattle.sc_words.specs.declared.commands.cores.Lock.TheVariants.{Free, Coordinating, Promised, Watching}
use Rattle.sc_words.specs.declared.commands.effects.Effect.{Effect}
use Rattle.sc_words.specs.declared.commands.effects.Effect.TheVariants as Was
use Rattle.sc_words.specs.declared.commands.links.Route.{Route}
use Rattle.sc_words.specs.declared.commands.orders.OrderRefusal.{OrderRefusal}
use Rattle.sc_words.specs.declared.commands.orders.OrderRefusal.TheVariants.{NotLeader, InTransaction, NoNeighbour, BadBoundary, TooManyMembers, NotMember, LastMember, TxLimit, IsMember}
use Rattle.sc_words.specs.commands.CommandDefinitions.{is_alone}
use Rattle.sc_group_table.specs.machine.Group.{Group}

-- the transaction that a lock is in, if it is in one
abbrev pub locked_in : Lock → Option Draw
locked_in Free = None
locked_in (Coordinating tx body order heard) = Some tx
locked_in (Promised tx offer) = Some tx
locked_in (Watching tx watch) = Some tx

-- why a join is refused, if so: refusal 5, the node would be the tenth member, or 9, it is a member already
abbrev pub join_refused : Core → ℕ → Option OrderRefusal
join_refused core node =
    if (length core.members == 9) && not (is_member core.members node) then Some (TooManyMembers 10)
    else if is_member core.members node then Some IsMember
    else None

-- why a leave is refused, if so: refusal 6, the node is no member, or 7, it is the last one
abbrev pub leave_refused : Core → ℕ → Option OrderRefusal
leave_refused core node =
    if not (is_member core.members node) then Some NotMember
    else if length core.members == 1 then Some LastMember
    else None

-- why a split is refused, if so: refusal 4, the boundary is not inside the group's arc, or 7, the group has one member, or 8, it has begun 256 transactions
abbrev pub split_refused : Core → ℕ → Option OrderRefusal
split_refused core at =
    if (at == core.arc.lo) || not (holds core.arc at) then Some BadBoundary
    else if length core.members == 1 then Some LastMember
    else if not (is_alone core) && nat_le 256 core.begun then Some TxLimit
    else None

-- refusal 8: whether the group has begun 256 transactions
abbrev pub limit_refused : Core → Option OrderRefusal
limit_refused core = if nat_le 256 core.begun then Some TxLimit else None

-- why a moved boundary is refused, if so: refusal 4, it is at an end of the group's arc, or 8
abbrev pub repart_refused : Core → ℕ → Option OrderRefusal
repart_refused core at = if (at == core.arc.lo) || (at == end_of core.arc) then Some BadBoundary else limit_refused core

-- why a handed-over member is refused, if so: refusal 6, the node is no member, or 7, it is the last one, or 8
abbrev pub migrate_refused : Core → ℕ → Option OrderRefusal
migrate_refused core node =
    if not (is_member core.members node) then Some NotMember
    else if length core.members == 1 then Some LastMember
    else limit_refused core

-- why a transaction with this body is refused, if so: refusals 4 and 6 to 8
abbrev pub body_refused : Body → Core → Option OrderRefusal
body_refused At.Merge core = limit_refused core
body_refused (At.Repart at) core = repart_refused core at
body_refused (At.Migrate node) core = migrate_refused core node
body_refused (At.Split at child) core = limit_refused core

-- why beginning a transaction is refused, if so: refusal 3, the group has no neighbour, or one of its body
abbrev pub begin_refused : Core → Body → Option OrderRefusal
begin_refused core body = if is_alone core then Some NoNeighbour else body_refused body core

-- why the command of an order is refused to a group that is not locked, if so: refusals 3 to 9. Other commands are no orders
abbrev pub refused_free : Core → Command → Option OrderRefusal
refused_free core (Join node order) = join_refused core node
refused_free core (Leave node order) = leave_refused core node
refused_free core (Split at child order) = split_refused core at
refused_free core (Begin tx body order) = begin_refused core body
refused_free core Noop = None
refused_free core (Call client seq op) = None
refused_free core (Prepared tx offer) = None
refused_free core (RecordVote tx vote by) = None
refused_free core (GiveUp tx) = None
refused_free core (Finish tx outcome) = None
refused_free core (Watched tx watch) = None
refused_free core (RecordWatch tx vote by) = None

-- why the command of an order is refused, by the transaction that the group is locked in: refusal 2 for any such transaction
abbrev pub refused_in : Option Draw → Core → Command → Option OrderRefusal
refused_in (Some tx) core command = Some (InTransaction tx)
refused_in None core command = refused_free core command

-- why the command of an order is refused to a group, if it is
abbrev pub refusal_of : Core → Command → Option OrderRefusal
refusal_of core command = refused_in (locked_in core.lock) core command

-- the group with one member more
abbrev pub with_node : Group → ℕ → Group
with_node group node = record group { core = record group.core { members = with_member group.core.members node } }

-- the group with one member less
abbrev pub without_node : Group → ℕ → Group
without_node group node = record group { core = record group.core { members = without_member group.core.members node } }

-- a group and the effect after an order, where `after` is the group if the order is accepted: a gone group refuses it with NotLeader
abbrev pub ordered : Option Route → Option OrderRefusal → Group → Group → Group × Effect
ordered (Some into) why after group = (group, Was.Refused (NotLeader None))
ordered None (Some why) after group = (group, Was.Refused why)
ordered None None after group = (after, Was.Changed)
