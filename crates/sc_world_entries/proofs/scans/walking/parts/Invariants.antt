use Rattle.std.proofs.Common.{◌≡◌, ◌≤◌, ◌^◌, ◌++◌}
use Rattle.sc_base.specs.Arc.{Arc}
use Rattle.sc_world_entries.specs.scans.Walk.{parts_in}
use Rattle.sc_world_entries.proofs.scans.walking.parts.Given as goal

-- the parts so far with those of what is left are all
abbrev pub invariant-loop-left : goal.invariant-loop-left
invariant-loop-left l =
    let rest : Arc = record { lo = l.lo; len = l.left } in
    (l.left ≤ 2 ^ 32) × (l.parts.items ++ parts_in l.ring rest ≡ parts_in l.ring l.arc)

abbrev pub decreases-loop-left : goal.decreases-loop-left
decreases-loop-left l = l.left
