use Rattle.std.proofs.Common.{◌≡◌, length, if◌then◌else◌, Some}
use Rattle.std.specs.Prelude.{slice_get}
use Rattle.sc_group_table.specs.machine.Group.{Group}
use Rattle.sc_meaning.specs.entries.Worlds.{is_named}
use Rattle.sc_world_groups.proofs.Changes.{changed}
use Rattle.sc_world_groups.proofs.groups.copy_over.Given as goal

-- those so far are replaced that have the name
abbrev pub invariant-loop-i : goal.invariant-loop-i
invariant-loop-i l = record {
  long : length l.groups.items ≡ length l.fn.groups.items;
  done : (after : Group) → slice_get l.fn.groups.items l.at ≡ Some after → l.groups.items ≡ changed (λ group. if is_named l.name group then after else group) l.i l.fn.groups.items;
}
