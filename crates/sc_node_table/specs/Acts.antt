-- The queued commands of transactions: of each kind and transaction at most one is queued.
use Rattle.std.specs.Prelude.{Bool, false, ◌||◌, [], ◌∷◌, ◌++◌, if◌then◌else◌}
use Rattle.std.specs.List.{list_any}
use Rattle.sc_base.specs.Definitions.{same_draw}
use Rattle.sc_base.specs.declared.names.Draw.{Draw}
use Rattle.sc_words.specs.declared.commands.commands.Command.{Command}
use Rattle.sc_words.specs.declared.commands.commands.Command.TheVariants.{Noop, Call, Join, Leave, Split, Begin, Prepared, RecordVote, GiveUp, Finish, Watched, RecordWatch}
use Rattle.sc_node_table.specs.Replica.{ReplicaState, Place, under_way}
use Rattle.sc_node_table.specs.Pump.{pumped}

-- whether a command is the vote on an offer in this transaction
abbrev pub is_prepared : Draw → Command → Bool
is_prepared tx (Prepared other offer) = same_draw tx other
is_prepared tx _ = false

-- whether a command records a participant's vote in this transaction
abbrev pub is_vote_record : Draw → Command → Bool
is_vote_record tx (RecordVote other vote by) = same_draw tx other
is_vote_record tx _ = false

-- whether a command gives this transaction up
abbrev pub is_giving_up : Draw → Command → Bool
is_giving_up tx (GiveUp other) = same_draw tx other
is_giving_up tx _ = false

-- whether a command brings the outcome of this transaction into a party's log
abbrev pub is_finish : Draw → Command → Bool
is_finish tx (Finish other outcome) = same_draw tx other
is_finish tx _ = false

-- whether a command is the vote on becoming a watcher in this transaction
abbrev pub is_watched : Draw → Command → Bool
is_watched tx (Watched other watch) = same_draw tx other
is_watched tx _ = false

-- whether a command records a watcher's vote in this transaction
abbrev pub is_watch_record : Draw → Command → Bool
is_watch_record tx (RecordWatch other vote by) = same_draw tx other
is_watch_record tx _ = false

-- whether the second command is of the same kind and transaction as the first; requests, orders and a Noop have no such kind
abbrev pub is_of_kind : Command → Command → Bool
is_of_kind (Prepared tx offer) other = is_prepared tx other
is_of_kind (RecordVote tx vote by) other = is_vote_record tx other
is_of_kind (GiveUp tx) other = is_giving_up tx other
is_of_kind (Finish tx outcome) other = is_finish tx other
is_of_kind (Watched tx watch) other = is_watched tx other
is_of_kind (RecordWatch tx vote by) other = is_watch_record tx other
is_of_kind Noop other = false
is_of_kind (Call client seq op) other = false
is_of_kind (Join node order) other = false
is_of_kind (Leave node order) other = false
is_of_kind (Split at child order) other = false
is_of_kind (Begin tx body order) other = false

-- whether a command of this kind and transaction is queued, in flight or ready
abbrev pub has_act : Command → ReplicaState → Bool
has_act act r = list_any (is_of_kind act) r.acts || list_any (is_of_kind act) (under_way r)

-- the replica after a command of a transaction is queued last, unless there is one of its kind and transaction
abbrev pub with_act : Command → ReplicaState → ReplicaState
with_act act r = if has_act act r then r else record r { acts = r.acts ++ act ∷ [] }

-- a command of a transaction is queued, and the pump is tried
unfoldable pub act_queued : Command → Place → Place
act_queued act (r, mails) = pumped (with_act act r, mails)
