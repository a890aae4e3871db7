use Rattle.std.proofs.Common.{◌≡◌, map, take}
use Rattle.sc_world_entries.specs.scans.Scan.{entries_in, shown}
use Rattle.sc_world_entries.proofs.scans.scans.scan_of.Given as goal

abbrev pub invariant-loop-part : goal.invariant-loop-part
invariant-loop-part l = l.scan.items ≡ map (shown l.world (entries_in l.entries)) (take l.part-index l.list)
