use Rattle.std.proofs.Common.{◌≡◌, take, Some}
use Rattle.sc_meaning.specs.entries.Rings.{ring_moved}
use Rattle.sc_world_groups.proofs.rings.moved.Given as goal

-- the cuts so far
abbrev pub invariant-loop-cut : goal.invariant-loop-cut
invariant-loop-cut l = l.after.items ≡ ring_moved l.at (Some l.whole) l.coordinator l.participant (take l.cut-index l.ring)
