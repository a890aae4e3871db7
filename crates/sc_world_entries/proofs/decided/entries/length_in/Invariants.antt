use Rattle.std.proofs.Common.{◌≡◌, drop}
use Rattle.sc_world_entries.specs.decided.Found.{length_of}
use Rattle.sc_world_entries.proofs.decided.entries.length_in.Given as goal

-- it is noted behind those so far, if it is noted
abbrev pub invariant-loop-noted : goal.invariant-loop-noted
invariant-loop-noted l = length_of l.name (drop l.noted-index l.lengths) ≡ length_of l.name l.lengths
