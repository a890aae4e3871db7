use Rattle.std.proofs.Common.{◌≡◌, take}
use Rattle.sc_world_groups.proofs.spans.spans_of.Given as goal

-- the cuts so far
abbrev pub invariant-loop-cut : goal.invariant-loop-cut
invariant-loop-cut l = l.spans.items ≡ take l.cut-index l.ring
