use Rattle.std.proofs.Common.{sym}
use Rattle.sc_explain.proofs.rows.changes.was_recorded.Goals as goal

pub returns-then-is_record_at : goal.returns-then-is_record_at
returns-then-is_record_at c = sym (c.is_record_at.ensures c.if-is_record_at.true)
