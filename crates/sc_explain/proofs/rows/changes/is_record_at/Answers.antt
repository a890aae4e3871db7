use Rattle.std.proofs.Common.{sym, ◌∙◌}
use Rattle.sc_explain.specs.facts.Sameness.{same_record}
use Rattle.sc_explain.proofs.RowsProofs.Changed.{any_at}
use Rattle.sc_explain.proofs.rows.changes.is_record_at.Goals as goal

pub returns-in-Some : goal.returns-in-Some
returns-in-Some c = λ holds.
    any_at (same_record c.args.one.now) c.args.before.now c.args.at c.in-Some.other.now c.in-Some.ensures.lookup.3.0 c.in-Some.ensures.lookup.1 (sym c.same_record.ensures ∙ holds)
