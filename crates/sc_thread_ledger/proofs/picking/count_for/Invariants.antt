use Rattle.std.proofs.Common.{◌≡◌, length, take}
use Rattle.sc_thread_ledger.specs.LedgerDefinitions.{copies_in, copies_for, spots_from}
use Rattle.sc_thread_ledger.proofs.picking.count_for.Given as goal

-- the number of copies that are for them so far
abbrev pub invariant-loop-entry : goal.invariant-loop-entry
invariant-loop-entry l = l.many ≡ length (copies_for l.whos (spots_from l.receivers (copies_in (take l.entry-index l.copies))))
