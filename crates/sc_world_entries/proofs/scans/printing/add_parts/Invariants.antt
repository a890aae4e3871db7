use Rattle.std.proofs.Common.{◌≡◌, ◌+◌, ◌≤◌, ◌++◌, length, drop}
use Rattle.sc_world_entries.specs.scans.Scan.{all_pairs}
use Rattle.sc_world_entries.specs.scans.Text.{part_lines}
use Rattle.sc_world_entries.proofs.scans.printing.add_parts.Given as goal

-- the lines so far with those of what is left are all, and what is left has as many pairs as are left of all
abbrev pub invariant-loop-shown : goal.invariant-loop-shown
invariant-loop-shown l =
    (l.number + length (all_pairs (drop l.shown-index l.scan)) ≤ l.total)
    × (l.all ++ part_lines l.most l.total l.number (drop l.shown-index l.scan) ≡ l.initial.all ++ part_lines l.most l.total 0 l.scan)
