use Rattle.std.proofs.Common.{◌∙◌, sym}
use Rattle.std.proofs.lemmas.Option.{none-some}
use Rattle.sc_group_parts.proofs.TransactionsProofs.RisingNodes.{with_last, no_error}
use Rattle.sc_group_parts.proofs.transactions.splits.put_last.Goals as goal

pub unreachable-requires : goal.unreachable-requires
unreachable-requires c = none-some _ (sym (no_error _ _ c.requires.above c.requires.room) ∙ c.in-Err.ensures.0)

pub returns : goal.returns
returns c = c.in-Ok.ensures.1 ∙ with_last _ _ c.requires.above
