use Rattle.std.proofs.Common.{◌≡◌, ◌++◌, ◌∷◌, [], take}
use Rattle.sc_thread_ledger.specs.LedgerDefinitions.{counts_for, open_entries}
use Rattle.sc_thread_ledger.proofs.queues.without.Given as goal

-- what is pending of the mails so far
abbrev pub invariant-loop-i : goal.invariant-loop-i
invariant-loop-i l = l.all.items ≡ open_entries (counts_for l.actors (l.crashed ++ l.who ∷ []) 0) 1 (take l.i l.receivers) (take l.i l.counts)
