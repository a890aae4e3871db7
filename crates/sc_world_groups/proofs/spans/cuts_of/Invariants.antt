use Rattle.std.proofs.Common.{◌≡◌, take}
use Rattle.sc_world_groups.proofs.spans.cuts_of.Given as goal

-- the cuts so far
abbrev pub invariant-loop-span : goal.invariant-loop-span
invariant-loop-span l = l.ring.items ≡ take l.span-index l.spans
