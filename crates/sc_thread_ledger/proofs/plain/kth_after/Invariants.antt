use Rattle.std.proofs.Common.{◌≡◌, map, take}
use Rattle.sc_actor.specs.Definitions.{mails, copies}
use Rattle.sc_thread_ledger.specs.LedgerDefinitions.{crashed_in}
use Rattle.sc_thread_ledger.proofs.plain.kth_after.Given as goal

abbrev pub invariant-loop-row : goal.invariant-loop-row
invariant-loop-row g l =
    (l.counts.items ≡ copies (take l.row-index l.rows))
    × (l.receivers.items ≡ map g.M.Parcel.receiver (mails (take l.row-index l.rows)))
    × (l.crashed.items ≡ crashed_in (take l.row-index l.rows))
