-- The commands of orders.
use Rattle.std.specs.Prelude.{Bool, true, false}
use Rattle.sc_words.specs.declared.commands.commands.Command.{Command}
use Rattle.sc_words.specs.declared.commands.commands.Command.TheVariants.{Noop, Call, Join, Leave, Split, Begin, Prepared, RecordVote, GiveUp, Finish, Watched, RecordWatch}

-- whether a command is that of an order
abbrev pub is_checked : Command → Bool
is_checked (Join node order) = true
is_checked (Leave node order) = true
is_checked (Split at child order) = true
is_checked (Begin tx body order) = true
is_checked Noop = false
is_checked (Call client seq op) = false
is_checked (Prepared tx offer) = false
is_checked (RecordVote tx vote by) = false
is_checked (GiveUp tx) = false
is_checked (Finish tx outcome) = false
is_checked (Watched tx watch) = false
is_checked (RecordWatch tx vote by) = false
