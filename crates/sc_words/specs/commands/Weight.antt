-- What commands and records count in the journal's bytes: the lengths of the operations, pairs and replies in them.
use Rattle.std.specs.Prelude.{ℕ, ◌+◌, ◌-◌, ◌^◌, min, List, length, Option, Some, None}
use Rattle.std.specs.List.{sum_by}
use Rattle.sc_base.specs.declared.names.Draw.{Draw}
use Rattle.sc_base.specs.declared.ops.Op.{Op}
use Rattle.sc_base.specs.declared.ops.Op.TheVariants.{Get, Put, Del, Add, Cas}
use Rattle.sc_base.specs.declared.ops.Reply.{Reply}
use Rattle.sc_base.specs.declared.ops.Noted.{Noted}
use Rattle.sc_words.specs.declared.commands.votes.Frozen.{Frozen}
use Rattle.sc_words.specs.declared.commands.votes.Heard.{Heard}
use Rattle.sc_words.specs.declared.commands.votes.Vote.{Vote}
use Rattle.sc_words.specs.declared.commands.votes.Vote.TheVariants.{Yes, No}
use Rattle.sc_words.specs.declared.commands.votes.Gift.{Gift}
use Rattle.sc_words.specs.declared.commands.votes.Outcome.{Outcome}
use Rattle.sc_words.specs.declared.commands.votes.Outcome.TheVariants.{Abort, Merged, Moved, Migrated, Divided}
use Rattle.sc_words.specs.declared.commands.commands.Command.{Command}
use Rattle.sc_words.specs.declared.commands.commands.Command.TheVariants.{Noop, Call, Join, Leave, Split, Begin, Prepared, RecordVote, GiveUp, Finish, Watched, RecordWatch}
use Rattle.sc_words.specs.declared.commands.cores.Lock.{Lock}
use Rattle.sc_words.specs.declared.commands.cores.Lock.TheVariants.{Free, Coordinating, Promised, Watching}
use Rattle.sc_words.specs.declared.commands.cores.Base.{Base}

-- a weight as a 64-bit number: one above 2^64 - 1 becomes 2^64 - 1
abbrev pub capped : ℕ → ℕ
capped weight = min weight (2 ^ 64 - 1)

-- the weight of an operation: the lengths of its key and of each value
abbrev pub op_weight : Op → ℕ
op_weight (Get key) = length key
op_weight (Put key value) = length key + length value
op_weight (Del key) = length key
op_weight (Add key value) = length key + length value
op_weight (Cas key expect value) = length key + length expect + length value

-- the weight of a value: its length, or 0 for None
abbrev pub value_weight : Option (List ℕ) → ℕ
value_weight None = 0
value_weight (Some value) = length value

-- the weight of a reply: the length of its value
abbrev pub reply_weight : Reply → ℕ
reply_weight reply = value_weight reply.old

-- the weight of a pair: 32, and the lengths of its key and value
abbrev pub pair_weight : List ℕ × List ℕ → ℕ
pair_weight pair = 32 + length pair.0 + length pair.1

-- the weight of a list of pairs
abbrev pub pairs_weight : List (List ℕ × List ℕ) → ℕ
pairs_weight pairs = sum_by pair_weight pairs

-- the weight of an entry of a client table: 32 and that of its reply
abbrev pub seen_weight : ℕ × Noted → ℕ
seen_weight seen = 32 + reply_weight seen.1.reply

-- the weight of a client table
abbrev pub clients_weight : List (ℕ × Noted) → ℕ
clients_weight clients = sum_by seen_weight clients

-- the weight of a participant's record: that of its pairs and its client table
abbrev pub frozen_weight : Frozen → ℕ
frozen_weight frozen = pairs_weight frozen.pairs + clients_weight frozen.clients

-- the weight of a vote: that of the record in a Yes, and 0 for a No
abbrev pub vote_weight : Vote → ℕ
vote_weight (Yes frozen) = frozen_weight frozen
vote_weight (No why) = 0

-- the weight of a gift: that of its pairs and its client table, or 0 for None
abbrev pub gift_weight : Option Gift → ℕ
gift_weight None = 0
gift_weight (Some gift) = pairs_weight gift.pairs + clients_weight gift.clients

-- the weight of an outcome: that of the gift of a moved boundary, and 0 for the others
abbrev pub outcome_weight : Outcome → ℕ
outcome_weight Abort = 0
outcome_weight (Merged into) = 0
outcome_weight (Moved at gift) = gift_weight gift
outcome_weight (Migrated node) = 0
outcome_weight Divided = 0

-- the weight of a command: that of the operation, vote or outcome in it
abbrev pub command_weight : Command → ℕ
command_weight Noop = 0
command_weight (Call client seq op) = op_weight op
command_weight (Join node order) = 0
command_weight (Leave node order) = 0
command_weight (Split at child order) = 0
command_weight (Begin tx body order) = 0
command_weight (Prepared tx offer) = 0
command_weight (RecordVote tx vote by) = vote_weight vote
command_weight (GiveUp tx) = 0
command_weight (Finish tx outcome) = outcome_weight outcome
command_weight (Watched tx watch) = 0
command_weight (RecordWatch tx vote by) = 0

-- the weight of a recorded Yes, or 0 for None
abbrev pub heard_weight : Option Heard → ℕ
heard_weight None = 0
heard_weight (Some heard) = frozen_weight heard.frozen

-- the weight of a lock: that of the Yes that it has recorded
abbrev pub lock_weight : Lock → ℕ
lock_weight Free = 0
lock_weight (Coordinating tx body order heard) = heard_weight heard
lock_weight (Promised tx offer) = 0
lock_weight (Watching tx watch) = 0

-- the weight of an outcome that a group has decided
abbrev pub decision_weight : Draw × Outcome → ℕ
decision_weight decision = outcome_weight decision.1

-- the weight of a group: that of its pairs and client table, of the gifts that it has decided, and of the Yes that its lock has recorded
abbrev pub base_weight : Base → ℕ
base_weight base = pairs_weight base.pairs + clients_weight base.clients + sum_by decision_weight base.core.decided + lock_weight base.core.lock
