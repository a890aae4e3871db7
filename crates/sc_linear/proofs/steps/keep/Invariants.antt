use Rattle.std.proofs.Common.{take}
use Rattle.sc_linear.specs.Steps.{ComeFrom, AreKept}
use Rattle.sc_linear.proofs.steps.keep.Given as goal

abbrev pub invariant-loop-at : goal.invariant-loop-at
invariant-loop-at l = record {
  from : ComeFrom l.who l.seen l.kept;
  all : AreKept l.who (take l.at l.seen) l.kept;
}
