use Rattle.std.proofs.Common.{◌≡◌, ◌++◌, take}
use Rattle.std.specs.List.{flat_map}
use Rattle.sc_world_entries.specs.decided.Found.{entries_behind, length_before}
use Rattle.sc_world_entries.proofs.decided.entries.add_behind.Given as goal

-- those of the groups so far
abbrev pub invariant-loop-known : goal.invariant-loop-known
invariant-loop-known l = l.entries.items ≡ l.initial.entries.items ++ flat_map (entries_behind (length_before l.name l.count l.lengths) l.knowns) (take l.known-index l.knowns)
