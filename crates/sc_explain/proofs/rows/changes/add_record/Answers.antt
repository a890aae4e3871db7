use Rattle.std.proofs.Common.{sym, ◌∙◌}
use Rattle.sc_explain.specs.facts.Sameness.{same_record}
use Rattle.sc_explain.proofs.RowsProofs.Changed.{said_before, said_now}
use Rattle.sc_explain.proofs.rows.changes.add_record.Goals as goal

pub returns-then-was_recorded : goal.returns-then-was_recorded
returns-then-was_recorded c = said_before same_record c.args.before.now c.args.new.now.items c.args.one.now (sym c.was_recorded.ensures ∙ c.if-was_recorded.true)

pub returns : goal.returns
returns c = c.in_ok-push.ensures.items ∙ said_now same_record c.args.before.now c.args.new.now.items c.args.one.now (sym c.was_recorded.ensures ∙ c.if-was_recorded.false)
