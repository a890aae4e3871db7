use Rattle.std.proofs.Common.{◌≡◌, map, take}
use Rattle.sc_meaning.specs.entries.Rings.{first_cut}
use Rattle.sc_world_groups.proofs.rings.first_cuts.Given as goal

-- the cuts so far
abbrev pub invariant-loop-base : goal.invariant-loop-base
invariant-loop-base l = l.ring.items ≡ map first_cut (take l.base-index l.bases)
