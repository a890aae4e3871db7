use Rattle.std.proofs.Common.{sym}
use Rattle.sc_explain.proofs.rows.changes.was_in_ring.Goals as goal

pub returns-then-is_group_at : goal.returns-then-is_group_at
returns-then-is_group_at c = sym (c.is_group_at.ensures c.if-is_group_at.true)
