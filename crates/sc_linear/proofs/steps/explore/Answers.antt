use Rattle.std.proofs.Common.{arith}
use Rattle.sc_linear.proofs.StepLemmas.{extends_more, closed_more}
use Rattle.sc_linear.proofs.steps.explore.Goals as goal

pub loop-at-preserved : goal.loop-at-preserved
loop-at-preserved c = record {
  lead = c.in_ok-visit.ensures.lead;
  kept = extends_more _ _ _ c.loop-at.invariant.kept c.in_ok-visit.ensures.kept;
  closed = closed_more c.args.requests.now c.args.under.now c.args.who c.loop-at.seen c.visit.new.seen c.loop-at.at c.in_ok-visit.ensures.kept (omega arith) c.loop-at.invariant.closed c.in_ok-visit.ensures.closed;
  few = omega arith;
}
