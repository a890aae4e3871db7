use Rattle.std.proofs.Common.{◌≡◌, replicate}
use Rattle.sc_thread_ledger.proofs.spots.no_counts.Given as goal

abbrev pub invariant-loop-i : goal.invariant-loop-i
invariant-loop-i l = l.counts.items ≡ replicate l.i 0
