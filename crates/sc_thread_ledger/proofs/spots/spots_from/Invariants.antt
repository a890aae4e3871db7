use Rattle.std.proofs.Common.{◌≡◌, take}
use Rattle.sc_thread_ledger.specs.LedgerDefinitions.{AreCounted, spots_from}
use Rattle.sc_thread_ledger.proofs.spots.spots_from.Given as goal

abbrev pub invariant-loop-number : goal.invariant-loop-number
invariant-loop-number l = (l.spots.items ≡ spots_from l.receivers (take l.number-index l.numbers)) × AreCounted l.counts.items l.spots.items
