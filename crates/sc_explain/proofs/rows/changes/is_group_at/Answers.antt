use Rattle.std.proofs.Common.{sym, ◌∙◌}
use Rattle.sc_explain.specs.facts.Sameness.{same_ring_group}
use Rattle.sc_explain.proofs.RowsProofs.Changed.{any_at}
use Rattle.sc_explain.proofs.rows.changes.is_group_at.Goals as goal

pub returns-in-Some : goal.returns-in-Some
returns-in-Some c = λ holds.
    any_at (same_ring_group c.args.one.now) c.args.before.now c.args.at c.in-Some.other.now c.in-Some.ensures.lookup.3.0 c.in-Some.ensures.lookup.1 (sym c.same_ring_group.ensures ∙ holds)
