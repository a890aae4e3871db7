use Rattle.std.proofs.Common.{◌≡◌, take}
use Rattle.std.specs.List.{flat_map}
use Rattle.sc_meaning.specs.entries.Rings.{parts_of}
use Rattle.sc_world_groups.proofs.rings.divided.Given as goal

-- the parts so far
abbrev pub invariant-loop-span : goal.invariant-loop-span
invariant-loop-span l = l.after.items ≡ flat_map (parts_of l.group l.division) (take l.span-index l.spans)
