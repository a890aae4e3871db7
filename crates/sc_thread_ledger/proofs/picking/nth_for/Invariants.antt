use Rattle.std.proofs.Common.{◌≡◌, ◌+◌, length, take}
use Rattle.sc_thread_ledger.specs.LedgerDefinitions.{copies_in, copies_for, spots_from}
use Rattle.sc_thread_ledger.proofs.picking.nth_for.Given as goal

-- how far the place is from those so far
abbrev pub invariant-loop-i : goal.invariant-loop-i
invariant-loop-i l = l.left + length (copies_for l.whos (spots_from l.receivers (copies_in (take l.i l.copies)))) ≡ l.n
