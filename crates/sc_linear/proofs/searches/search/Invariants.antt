use Rattle.std.proofs.Common.{◌<◌, length}
use Rattle.sc_linear.specs.Front.{IsFront}
use Rattle.sc_linear.proofs.searches.search.Given as goal

abbrev pub invariant-loop-at : goal.invariant-loop-at
invariant-loop-at l = record {
  front : IsFront l.requests l.moves l.at l.under.items l.seen l.trail;
  some : 0 < length l.seen;
}
