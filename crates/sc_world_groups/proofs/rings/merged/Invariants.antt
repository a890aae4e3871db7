use Rattle.std.proofs.Common.{◌≡◌, take, not, filter}
use Rattle.sc_meaning.specs.entries.Rings.{is_cut_of, recut}
use Rattle.sc_world_groups.proofs.rings.merged.Given as goal

-- the cuts so far
abbrev pub invariant-loop-cut : goal.invariant-loop-cut
invariant-loop-cut l = l.after.items ≡ recut l.coordinator l.whole (filter (λ cut. not (is_cut_of l.participant cut)) (take l.cut-index l.ring))
