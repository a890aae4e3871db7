use Rattle.std.proofs.Common.{◌≡◌, ◌+◌, ◌++◌, length, map, replicate, take}
use Rattle.sc_thread_ledger.specs.LedgerDefinitions.{Holds}
use Rattle.sc_thread_ledger.proofs.queues.after_sent.Given as goal

abbrev pub invariant-loop-mail : goal.invariant-loop-mail
invariant-loop-mail g l =
    (l.number ≡ length l.receivers + l.mail-index)
    × Holds l.queues l.actors l.crashed (l.receivers ++ map g.M.Parcel.receiver (take l.mail-index l.sent)) (l.counts ++ replicate l.mail-index 1)
