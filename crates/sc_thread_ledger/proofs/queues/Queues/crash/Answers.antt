use Rattle.std.proofs.Common.{◌-◌, ap, ◌∙◌, refl, set, arith}
use Rattle.sc_thread_ledger.specs.LedgerDefinitions.{kept}
use Rattle.sc_thread_ledger.proofs.Entries.{map_set}
use Rattle.sc_thread_ledger.proofs.Holding.{crash_out, crash_own}
use Rattle.sc_thread_ledger.proofs.queues.Queues.crash.Goals.{else-who-gt0-via-then-who-gt0+else-who-actors, else-who-gt0-via-else-who-gt0}
use Rattle.sc_thread_ledger.proofs.queues.Queues.crash.Goals as goal

pub returns-then-who-actors : goal.returns-then-who-actors
returns-then-who-actors c =
    crash_own c.args.actors c.args.crashed.now c.args.who c.args.self.now _ c.args.receivers.now c.args.counts.now c.requires.holds c.in_ok-self.ensures c.if-who-gt0.true
    (map_set (λ m. m.items) c.args.self.now.each.items (c.args.who - 1) c.clear.new.self ∙ ap (set (kept c.args.self.now) (c.args.who - 1)) c.clear.ensures.items)

pub returns-else-who-gt0 : goal.returns-else-who-gt0
returns-else-who-gt0 c =
    crash_out c.args.actors c.args.crashed.now c.args.who c.args.self.now _ c.args.receivers.now c.args.counts.now c.requires.holds c.in_ok-self.ensures refl
    (elim c.else-who-gt0.branch [
      | else-who-gt0-via-then-who-gt0+else-who-actors w ↦ λ k lt e. omega (arith, lt, e, w.if-who-actors.false)
      | else-who-gt0-via-else-who-gt0 w ↦ λ k lt e. omega (arith, e, w.if-who-gt0.false)
    ])
