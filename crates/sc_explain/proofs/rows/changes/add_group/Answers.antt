use Rattle.std.proofs.Common.{sym, ◌∙◌}
use Rattle.sc_explain.specs.facts.Sameness.{same_ring_group}
use Rattle.sc_explain.proofs.RowsProofs.Changed.{said_before, said_now}
use Rattle.sc_explain.proofs.rows.changes.add_group.Goals as goal

pub returns-then-was_in_ring : goal.returns-then-was_in_ring
returns-then-was_in_ring c = said_before same_ring_group c.args.before.now c.args.new.now.items c.args.one.now (sym c.was_in_ring.ensures ∙ c.if-was_in_ring.true)

pub returns : goal.returns
returns c = c.in_ok-push.ensures.items ∙ said_now same_ring_group c.args.before.now c.args.new.now.items c.args.one.now (sym c.was_in_ring.ensures ∙ c.if-was_in_ring.false)
