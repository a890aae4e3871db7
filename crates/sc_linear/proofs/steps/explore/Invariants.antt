use Rattle.std.proofs.Common.{◌≤◌, length}
use Rattle.sc_linear.specs.Standing.{AllLead, Extends}
use Rattle.sc_linear.specs.Steps.{AreClosed}
use Rattle.sc_linear.proofs.steps.explore.Given as goal

abbrev pub invariant-loop-at : goal.invariant-loop-at
invariant-loop-at l = record {
  lead : AllLead l.requests l.line l.trail l.seen;
  kept : Extends l.fn.seen l.seen;
  closed : AreClosed l.requests l.under l.who l.seen l.at;
  few : length l.seen ≤ l.most;
}
