use Rattle.std.proofs.Common.{◌≡◌, ◌+◌, ◌++◌, map, take, vec_len, vec_capacity}
use Rattle.sc_thread_ledger.proofs.counting.add_receivers.Given as goal

abbrev pub invariant-loop-mail : goal.invariant-loop-mail
invariant-loop-mail g l =
    (l.receivers.items ≡ l.initial.receivers.items ++ map g.M.Parcel.receiver (take l.mail-index l.sent))
    × (vec_len l.receivers ≡ vec_len l.initial.receivers + l.mail-index)
    × (vec_capacity l.receivers ≡ vec_capacity l.initial.receivers)
