use Rattle.std.proofs.Common.{◌≡◌, ◌+◌, ◌++◌, replicate, vec_len, vec_capacity}
use Rattle.sc_thread_ledger.proofs.counting.add_homes.Given as goal

abbrev pub invariant-loop-i : goal.invariant-loop-i
invariant-loop-i l =
    (l.homes.items ≡ l.initial.homes.items ++ replicate l.i l.home)
    × (vec_len l.homes ≡ vec_len l.initial.homes + l.i)
    × (vec_capacity l.homes ≡ vec_capacity l.initial.homes)
