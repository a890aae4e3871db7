use Rattle.std.proofs.Common.{◌≡◌, ◌+◌, ◌++◌, drop}
use Rattle.sc_world_entries.specs.scans.Text.{pair_lines}
use Rattle.sc_world_entries.proofs.scans.printing.add_pairs.Given as goal

-- the lines so far with those of what is left are all
abbrev pub invariant-loop-pair : goal.invariant-loop-pair
invariant-loop-pair l =
    (l.count ≡ l.number + l.pair-index) × (l.all ++ pair_lines l.most l.total l.count (drop l.pair-index l.pairs) ≡ l.initial.all ++ pair_lines l.most l.total l.number l.pairs)
