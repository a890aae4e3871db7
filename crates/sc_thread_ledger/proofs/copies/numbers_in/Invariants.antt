use Rattle.std.proofs.Common.{◌≡◌, take}
use Rattle.sc_thread_ledger.specs.LedgerDefinitions.{copies_in}
use Rattle.sc_thread_ledger.proofs.copies.numbers_in.Given as goal

abbrev pub invariant-loop-entry : goal.invariant-loop-entry
invariant-loop-entry l = l.found.items ≡ copies_in (take l.entry-index l.copies)
