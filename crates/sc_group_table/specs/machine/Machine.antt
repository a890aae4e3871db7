-- The group's state machine: the group after an executed command, and the effect. In each definition the first case whose condition holds counts.
use Rattle.std.specs.Prelude.{ℕ, Option, Some, None, nat_lt, ◌==◌, if◌then◌else◌}
use Rattle.std.specs.FinMap.{get, insert}
use Rattle.sc_base.specs.declared.names.Draw.{Draw}
use Rattle.sc_base.specs.declared.ops.Op.{Op}
use Rattle.sc_base.specs.declared.ops.Noted.{Noted}
use Rattle.sc_words.specs.commands.CommandDefinitions.{is_alone}
use Rattle.sc_words.specs.ideal.IdealDefinitions.{key_of, reply_of, after, holds_key}
use Rattle.sc_words.specs.declared.commands.bodies.Body.TheVariants as Body
use Rattle.sc_words.specs.declared.commands.links.Route.{Route}
use Rattle.sc_words.specs.declared.commands.orders.OrderRefusal.{OrderRefusal}
use Rattle.sc_words.specs.declared.commands.cores.Lock.{Lock}
use Rattle.sc_words.specs.declared.commands.cores.Lock.TheVariants.{Free, Coordinating, Promised, Watching}
use Rattle.sc_words.specs.declared.commands.commands.Command.{Command}
use Rattle.sc_words.specs.declared.commands.commands.Command.TheVariants.{Noop, Call, Join, Leave, Split, Begin, Prepared, RecordVote, GiveUp, Finish, Watched, RecordWatch}
use Rattle.sc_words.specs.declared.commands.effects.Effect.{Effect}
use Rattle.sc_words.specs.declared.commands.effects.Effect.TheVariants.{Done, Again, Stale, NotMine, Gone, NoEffect, Idle}
use Rattle.sc_group_table.specs.machine.Group.{Group}
use Rattle.sc_group_table.specs.machine.Orders.{refusal_of, ordered, with_node, without_node}
use Rattle.sc_group_table.specs.machine.Splits.{has_named, left_group}
use Rattle.sc_group_table.specs.machine.Transactions.{begun_group, given_up, vote_recorded, watch_recorded}
use Rattle.sc_group_table.specs.machine.Votes.{offer_voted, watched}
use Rattle.sc_group_table.specs.machine.Finishes.{finished}

-- a new request: the operation is applied, and the client table keeps its number and reply
abbrev pub done : Group → ℕ → ℕ → Op → Group × Effect
done group client seq op = (
  record group { pairs = after op group.pairs; clients = insert group.clients client (record { seq = seq; reply = reply_of op group.pairs }) },
  Done (reply_of op group.pairs),
)

-- a request by the client's entry in the client table: a new one is applied, the last one gets its reply again, and an older one is stale
abbrev pub served_by_note : Option Noted → Group → ℕ → ℕ → Op → Group × Effect
served_by_note None group client seq op = done group client seq op
served_by_note (Some noted) group client seq op =
    if nat_lt noted.seq seq then done group client seq op
    else if noted.seq == seq then (group, Again noted.reply)
    else (group, Stale noted.seq)

-- a request to a group that serves: only where its arc holds the key
abbrev pub served : Group → ℕ → ℕ → Op → Group × Effect
served group client seq op =
    if holds_key group.core.arc (key_of op) then served_by_note (get group.clients client) group client seq op
    else (group, NotMine group.core.arc group.core.succ)

-- a request to a group that may be gone or locked: a gone group and a coordinator or participant do not serve it
abbrev pub called : Option Route → Lock → Group → ℕ → ℕ → Op → Group × Effect
called (Some into) lock group client seq op = (group, Gone into)
called None Free group client seq op = served group client seq op
called None (Watching tx watch) group client seq op = served group client seq op
called None (Coordinating tx body order heard) group client seq op = (group, NoEffect tx)
called None (Promised tx offer) group client seq op = (group, NoEffect tx)

-- an accepted Split: the group is split at once where it is its own successor, and else it only locks, to ask its watcher
abbrev pub split_group : Group → ℕ → Draw → ℕ → Group
split_group group at child order = if is_alone group.core then left_group group at child else begun_group group child (Body.Split at child) order

-- an order with the name that it brings, if it brings one; a name in use already has no effect. A join and a leave bring none
abbrev pub ordered_by : Option Draw → Option OrderRefusal → Group → Group → Group × Effect
ordered_by None why after group = ordered group.core.gone why after group
ordered_by (Some draw) why after group = if has_named group.core draw then (group, NoEffect draw) else ordered group.core.gone why after group

-- the group after one command, and the command's effect
abbrev pub applied : Group → Command → Group × Effect
applied group Noop = (group, Idle)
applied group (Call client seq op) = called group.core.gone group.core.lock group client seq op
applied group (Join node order) = ordered_by None (refusal_of group.core (Join node order)) (with_node group node) group
applied group (Leave node order) = ordered_by None (refusal_of group.core (Leave node order)) (without_node group node) group
applied group (Split at child order) = ordered_by (Some child) (refusal_of group.core (Split at child order)) (split_group group at child order) group
applied group (Begin tx body order) = ordered_by (Some tx) (refusal_of group.core (Begin tx body order)) (begun_group group tx body order) group
applied group (Prepared tx offer) = offer_voted group tx offer
applied group (RecordVote tx vote by) = vote_recorded group.core.lock group tx vote by
applied group (GiveUp tx) = given_up group tx
applied group (Finish tx outcome) = finished group.core.lock group tx outcome
applied group (Watched tx watch) = watched group tx watch
applied group (RecordWatch tx vote by) = watch_recorded group.core.lock group tx vote
