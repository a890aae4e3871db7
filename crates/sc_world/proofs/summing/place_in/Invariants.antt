use Rattle.std.proofs.Common.{◌≡◌, ◌+◌, drop}
use Rattle.sc_world.specs.Summary.{place_in}
use Rattle.sc_world.proofs.summing.place_in.Given as goal

-- those so far do not begin later, and those that are left decide
abbrev pub invariant-loop-other : goal.invariant-loop-other
invariant-loop-other l = record {
  count : l.at ≡ l.other-index;
  left : place_in l.lines l.lo ≡ l.other-index + place_in (drop l.other-index l.lines) l.lo;
}
