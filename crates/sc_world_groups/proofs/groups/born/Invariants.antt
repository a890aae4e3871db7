use Rattle.std.proofs.Common.{◌≡◌, map, take}
use Rattle.sc_group_table.specs.machine.Group.{group_of}
use Rattle.sc_world_groups.proofs.groups.born.Given as goal

-- the groups so far
abbrev pub invariant-loop-base : goal.invariant-loop-base
invariant-loop-base l = l.groups.items ≡ map group_of (take l.base-index l.bases)
