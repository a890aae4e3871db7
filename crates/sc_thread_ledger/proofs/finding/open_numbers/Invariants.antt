use Rattle.std.proofs.Common.{◌≡◌, ◌+◌, ◌++◌, drop}
use Rattle.sc_actor.specs.Definitions.{numbers}
use Rattle.sc_thread_ledger.specs.LedgerDefinitions.{counts_for}
use Rattle.sc_thread_ledger.proofs.finding.open_numbers.Given as goal

-- what was found, and what is left to find among the mails that are left
abbrev pub invariant-loop-i : goal.invariant-loop-i
invariant-loop-i l =
    l.found.items ++ numbers (counts_for l.actors l.crashed 0) (l.i + 1) (drop l.i l.receivers) (drop l.i l.counts)
    ≡ numbers (counts_for l.actors l.crashed 0) 1 l.receivers l.counts
