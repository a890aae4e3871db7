-- What the effect of an entry says.
use Rattle.std.specs.Prelude.{Bool, true, false, Option, Some, None}
use Rattle.sc_words.specs.declared.commands.effects.Effect.{Effect}
use Rattle.sc_words.specs.declared.commands.effects.Effect.TheVariants.{Done, Again, Stale, NotMine, Gone, NoEffect, Idle, Changed, Voted, Decided, Refused}
use Rattle.sc_words.specs.declared.commands.orders.OrderResult.{OrderResult}
use Rattle.sc_words.specs.declared.commands.orders.OrderResult.TheVariants as Results
use Rattle.sc_words.specs.declared.commands.votes.Outcome.{Outcome}
use Rattle.sc_words.specs.declared.commands.votes.Outcome.TheVariants.{Abort, Merged, Moved, Migrated, Divided}
use Rattle.sc_words.specs.declared.commands.votes.Past.{Past}

-- whether the effect is Changed: of an entry of an order, whether the order was carried out or begun
abbrev pub is_changed : Effect → Bool
is_changed Changed = true
is_changed (Done reply) = false
is_changed (Again reply) = false
is_changed (Stale last) = false
is_changed (NotMine arc succ) = false
is_changed (Gone into) = false
is_changed (NoEffect tx) = false
is_changed Idle = false
is_changed (Voted vote) = false
is_changed (Decided outcome) = false
is_changed (Refused why) = false

-- the result to report of an order that was refused when it was executed, or None
abbrev pub refused_result : Effect → Option OrderResult
refused_result (Refused why) = Some (Results.Refused why)
refused_result (Done reply) = None
refused_result (Again reply) = None
refused_result (Stale last) = None
refused_result (NotMine arc succ) = None
refused_result (Gone into) = None
refused_result (NoEffect tx) = None
refused_result Idle = None
refused_result Changed = None
refused_result (Voted vote) = None
refused_result (Decided outcome) = None

-- the result to report of an order that one entry carries out: a join, a leave, or the split of a group that is its own successor; None where the entry ends no order
abbrev pub result_of : Effect → Option OrderResult
result_of Changed = Some Results.Done
result_of (Refused why) = Some (Results.Refused why)
result_of (Done reply) = None
result_of (Again reply) = None
result_of (Stale last) = None
result_of (NotMine arc succ) = None
result_of (Gone into) = None
result_of (NoEffect tx) = None
result_of Idle = None
result_of (Voted vote) = None
result_of (Decided outcome) = None

-- the outcome that an entry decided, if it did
abbrev pub decided_in : Effect → Option Outcome
decided_in (Decided outcome) = Some outcome
decided_in (Done reply) = None
decided_in (Again reply) = None
decided_in (Stale last) = None
decided_in (NotMine arc succ) = None
decided_in (Gone into) = None
decided_in (NoEffect tx) = None
decided_in Idle = None
decided_in Changed = None
decided_in (Voted vote) = None
decided_in (Refused why) = None

-- the vote that an entry cast, if it did
abbrev pub cast_in : Effect → Option Past
cast_in (Voted vote) = Some vote
cast_in (Done reply) = None
cast_in (Again reply) = None
cast_in (Stale last) = None
cast_in (NotMine arc succ) = None
cast_in (Gone into) = None
cast_in (NoEffect tx) = None
cast_in Idle = None
cast_in Changed = None
cast_in (Decided outcome) = None
cast_in (Refused why) = None

-- whether an outcome is that of a split
abbrev pub divides : Outcome → Bool
divides Divided = true
divides Abort = false
divides (Merged into) = false
divides (Moved at gift) = false
divides (Migrated node) = false

-- whether an entry decided a split
abbrev pub is_divided : Effect → Bool
is_divided (Decided outcome) = divides outcome
is_divided (Done reply) = false
is_divided (Again reply) = false
is_divided (Stale last) = false
is_divided (NotMine arc succ) = false
is_divided (Gone into) = false
is_divided (NoEffect tx) = false
is_divided Idle = false
is_divided Changed = false
is_divided (Voted vote) = false
is_divided (Refused why) = false
