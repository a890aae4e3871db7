use Rattle.std.proofs.Common.{◌≡◌, take}
use Rattle.sc_world_entries.proofs.scans.paging.dup_all.Given as goal

abbrev pub invariant-loop-pair : goal.invariant-loop-pair
invariant-loop-pair l = l.copy.items ≡ take l.pair-index l.pairs
