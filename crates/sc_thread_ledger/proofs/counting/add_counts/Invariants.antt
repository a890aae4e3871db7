use Rattle.std.proofs.Common.{◌≡◌, ◌+◌, ◌++◌, replicate, vec_len, vec_capacity}
use Rattle.sc_thread_ledger.proofs.counting.add_counts.Given as goal

abbrev pub invariant-loop-i : goal.invariant-loop-i
invariant-loop-i l =
    (l.counts.items ≡ l.initial.counts.items ++ replicate l.i 1)
    × (vec_len l.counts ≡ vec_len l.initial.counts + l.i)
    × (vec_capacity l.counts ≡ vec_capacity l.initial.counts)
