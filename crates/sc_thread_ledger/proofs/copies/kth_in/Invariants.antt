use Rattle.std.proofs.Common.{◌≡◌, ◌<◌, drop}
use Rattle.sc_actor.specs.Definitions.{kth}
use Rattle.sc_thread_ledger.specs.LedgerDefinitions.{copies_in}
use Rattle.sc_thread_ledger.proofs.copies.kth_in.Given as goal

-- what is left to find among the entries that are left
abbrev pub invariant-loop-entry : goal.invariant-loop-entry
invariant-loop-entry l = (0 < l.left) × (kth (copies_in l.copies) l.k ≡ kth (copies_in (drop l.entry-index l.copies)) l.left)
