use Rattle.std.proofs.Common.{◌≡◌, ◌++◌, map, take}
use Rattle.sc_explain.specs.rows.Explained.{birth_of_group}
use Rattle.sc_explain.proofs.rows.adding.add_births.Given as goal

-- the lines so far
abbrev pub invariant-loop-group : goal.invariant-loop-group
invariant-loop-group l = l.lines.items ≡ l.initial.lines.items ++ map (birth_of_group l.row) (take l.group-index l.groups)
