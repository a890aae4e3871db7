use Rattle.std.proofs.Common.{◌≡◌, take}
use Rattle.sc_thread_ledger.specs.LedgerDefinitions.{copies_in}
use Rattle.sc_thread_ledger.proofs.picking.each_once.Given as goal

abbrev pub invariant-loop-number : goal.invariant-loop-number
invariant-loop-number l = copies_in l.copies.items ≡ take l.number-index l.numbers
