use Rattle.std.proofs.Common.{◌≡◌, ◌++◌, map, take}
use Rattle.sc_explain.specs.facts.Facts.{ring_group_line}
use Rattle.sc_explain.proofs.rows.adding.add_ring_groups.Given as goal

-- the lines so far
abbrev pub invariant-loop-group : goal.invariant-loop-group
invariant-loop-group l = l.lines.items ≡ l.initial.lines.items ++ map (ring_group_line l.row) (take l.group-index l.groups)
