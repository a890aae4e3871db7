use Rattle.std.proofs.Common.{◌≡◌, ◌<◌, ◌+◌, drop}
use Rattle.sc_actor.specs.Definitions.{numbers, kth}
use Rattle.sc_thread_ledger.specs.LedgerDefinitions.{counts_for}
use Rattle.sc_thread_ledger.proofs.finding.kth_open.Given as goal

-- what is left to find among the mails that are left
abbrev pub invariant-loop-i : goal.invariant-loop-i
invariant-loop-i l =
    (0 < l.left)
    × (kth (numbers (counts_for l.actors l.crashed l.who) 1 l.receivers l.counts) l.k
    ≡ kth (numbers (counts_for l.actors l.crashed l.who) (l.i + 1) (drop l.i l.receivers) (drop l.i l.counts)) l.left)
