use Rattle.sc_linear.proofs.StepLemmas.{extends_more, taken_more}
use Rattle.sc_linear.proofs.steps.expand_all.Goals as goal

-- src/steps.rt:106:5
pub loop-x-preserved : goal.loop-x-preserved
loop-x-preserved c = record {
  lead = c.in_ok-try_one.ensures.lead;
  kept = extends_more _ _ _ c.loop-x.invariant.kept c.in_ok-try_one.ensures.kept;
  all = taken_more c.args.requests.now c.args.seen.now c.loop-x.seen c.try_one.new.seen c.args.at c.args.under.now c.loop-x.x-index c.requires.at c.loop-x.invariant.kept c.in_ok-try_one.ensures.kept c.loop-x-test.true c.loop-x.invariant.all c.in_ok-try_one.ensures.taken;
}
