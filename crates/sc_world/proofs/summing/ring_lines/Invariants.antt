use Rattle.std.proofs.Common.{◌≡◌, [], fold, take}
use Rattle.std.specs.List.{flat_map}
use Rattle.std.specs.Option.{option_to_list}
use Rattle.sc_world.specs.Summary.{cut_route, placed}
use Rattle.sc_world.proofs.summing.ring_lines.Given as goal

-- the lines of the cuts so far
abbrev pub invariant-loop-cut : goal.invariant-loop-cut
invariant-loop-cut l = l.lines.items ≡ fold placed [] (flat_map (λ cut. option_to_list (cut_route l.world cut)) (take l.cut-index l.cut-items))
