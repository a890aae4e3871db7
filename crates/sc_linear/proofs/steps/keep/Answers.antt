use Rattle.std.proofs.Common.{arith}
use Rattle.sc_linear.proofs.StepLemmas.{kept_more}
use Rattle.sc_linear.proofs.steps.keep.Goals as goal

pub loop-at-preserved : goal.loop-at-preserved
loop-at-preserved c = record {
  from = c.in_ok-keep_one.ensures.from;
  all = kept_more c.args.who c.args.seen.now c.loop-at.kept c.keep_one.new.kept c.loop-at.at (omega arith) c.in_ok-keep_one.ensures.more c.loop-at.invariant.all c.in_ok-keep_one.ensures.here;
}
