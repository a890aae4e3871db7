use Rattle.std.proofs.Common.{◌≡◌, ◌==◌, length, take, filter}
use Rattle.sc_thread_ledger.specs.LedgerDefinitions.{copies_in, spots_from}
use Rattle.sc_thread_ledger.proofs.picking.count_to.Given as goal

-- the number of copies that have it so far
abbrev pub invariant-loop-i : goal.invariant-loop-i
invariant-loop-i l = l.many ≡ length (filter (λ s. s.who == l.who) (spots_from l.receivers (copies_in (take l.i l.copies))))
