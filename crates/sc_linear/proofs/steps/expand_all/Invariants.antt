use Rattle.std.proofs.Common.{take}
use Rattle.sc_linear.specs.Standing.{AllLead, Extends, place_at}
use Rattle.sc_linear.specs.Steps.{AllTaken}
use Rattle.sc_linear.proofs.steps.expand_all.Given as goal

abbrev pub invariant-loop-x : goal.invariant-loop-x
invariant-loop-x l = record {
  lead : AllLead l.requests l.line l.trail l.seen;
  kept : Extends l.fn.seen l.seen;
  all : AllTaken l.requests l.seen (place_at l.fn.seen l.at) (take l.x-index l.under);
}
