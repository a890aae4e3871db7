use Rattle.std.proofs.Common.{sym, ◌∙◌, arith}
use Rattle.sc_json_journal.proofs.FileProofs.Dividers.{found_here, found_on, found_nowhere}
use Rattle.sc_json_journal.proofs.file.cuts.divider_at.Goals as goal

pub returns-then-is_text-clause-prefix : goal.returns-then-is_text-clause-prefix
returns-then-is_text-clause-prefix c =
    sym (found_here c.args.file.now c.loop-len.at c.loop-len.lines c.in-Some.len c.loop-len.invariant.2 (sym c.feed_at.ensures ∙ c.in-Some.is) (sym c.is_text.ensures ∙ c.if-is_text.true))

pub loop-len-preserved : goal.loop-len-preserved
loop-len-preserved c =
    let on = found_on c.args.file.now c.loop-len.at c.loop-len.lines c.in-Some.len c.loop-len.invariant.2 (sym c.feed_at.ensures ∙ c.in-Some.is) (sym c.is_text.ensures ∙ c.if-is_text.false) c.loop-len.invariant.0 in
    (on.0, omega (arith, c.loop-len.invariant.1), on.1)

pub returns-clause-prefix : goal.returns-clause-prefix
returns-clause-prefix c = sym (found_nowhere c.args.file.now c.loop-len.at c.loop-len.lines c.loop-len.invariant.2 (sym c.feed_at.ensures ∙ c.in_default.is))
