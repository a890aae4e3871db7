use Rattle.std.proofs.Common.{◌≡◌, take}
use Rattle.std.specs.List.{flat_map}
use Rattle.sc_explain.specs.rows.Explained.{ring_group_in}
use Rattle.sc_explain.proofs.rows.groups.ring_groups_in.Given as goal

-- those so far
abbrev pub invariant-loop-cut : goal.invariant-loop-cut
invariant-loop-cut l = l.groups.items ≡ flat_map (ring_group_in l.world) (take l.cut-index l.ring)
