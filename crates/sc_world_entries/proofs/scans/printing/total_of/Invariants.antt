use Rattle.std.proofs.Common.{◌≡◌, ◌+◌, length, drop}
use Rattle.sc_world_entries.specs.scans.Scan.{all_pairs}
use Rattle.sc_world_entries.proofs.scans.printing.total_of.Given as goal

abbrev pub invariant-loop-shown : goal.invariant-loop-shown
invariant-loop-shown l = l.total + length (all_pairs (drop l.shown-index l.scan)) ≡ length (all_pairs l.scan)
