use Rattle.std.proofs.Common.{◌≡◌, take}
use Rattle.sc_meaning.specs.entries.Worlds.{world_of}
use Rattle.sc_world_groups.proofs.worlds.world_of.Given as goal

-- what the entries so far make
abbrev pub invariant-loop-entry : goal.invariant-loop-entry
invariant-loop-entry l = l.world ≡ world_of l.bases (take l.entry-index l.entries)
