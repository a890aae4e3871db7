use Rattle.std.proofs.Common.{◌≡◌, map, take}
use Rattle.sc_world_entries.specs.decided.Found.{length_kept}
use Rattle.sc_world_entries.proofs.decided.entries.lengths_of.Given as goal

-- those so far
abbrev pub invariant-loop-known : goal.invariant-loop-known
invariant-loop-known l = l.lengths.items ≡ map length_kept (take l.known-index l.knowns)
