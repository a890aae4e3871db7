use Rattle.std.proofs.Common.{rules, ◌≡◌, ◌-◌, ◌<◌, true, false, refl, sym, subst, cond, length, get_or, arith, OnOk}
use Rattle.sc_actor.specs.Definitions.{one_less, one_more}
use Rattle.sc_thread_ledger.specs.LedgerDefinitions.{runs, Holds}
use Rattle.sc_thread_ledger.proofs.Holding.{change_not, more_done, less_done}
use Rattle.sc_thread_ledger.proofs.queues.Queues.change.Goals as goal

pub returns-then-not-runs : goal.returns-then-not-runs
returns-then-not-runs c =
    let gone : runs c.args.actors c.args.crashed.now (get_or c.args.receivers.now (c.args.number - 1) 0) ≡ false = search rules in
    change_not c.args.actors c.args.crashed.now c.args.self.now c.args.receivers.now c.args.counts.now c.requires.holds c.args.number (c.args.number - 1) c.args.more (omega arith) gone

pub returns-then-more : goal.returns-then-more
returns-then-more c =
    let rs = c.args.receivers.now in let cs = c.args.counts.now in let p = c.args.number - 1 in
    let ok : runs c.args.actors c.args.crashed.now (get_or rs p 0) ≡ true = search rules in
    let inside : p < length rs = omega (arith, c.requires.same) in
    subst (λ b. OnOk c.set_copies.result (Holds c.set_copies.new.self c.args.actors c.args.crashed.now rs (cond b (one_more cs c.args.number) (one_less cs c.args.number)))) (sym c.if-more.true)
    (more_done c.args.actors c.args.crashed.now c.args.self.now c.set_copies.new.self rs cs c.requires.holds c.args.number p (get_or rs p 0) (omega arith) inside c.requires.same refl ok c.set_copies.result _ refl c.set_copies.ensures.all c.set_copies.ensures.each)

pub returns-else-more : goal.returns-else-more
returns-else-more c =
    let rs = c.args.receivers.now in let cs = c.args.counts.now in let p = c.args.number - 1 in
    let ok : runs c.args.actors c.args.crashed.now (get_or rs p 0) ≡ true = search rules in
    let inside : p < length rs = omega (arith, c.requires.same) in
    subst (λ b. OnOk c.set_copies-else-more.result (Holds c.set_copies-else-more.new.self c.args.actors c.args.crashed.now rs (cond b (one_more cs c.args.number) (one_less cs c.args.number)))) (sym c.if-more.false)
    (less_done c.args.actors c.args.crashed.now c.args.self.now c.set_copies-else-more.new.self rs cs c.requires.holds c.args.number p (get_or rs p 0) (omega arith) inside c.requires.same refl ok c.set_copies-else-more.result c.saturating_sub.result c.saturating_sub.ensures c.set_copies-else-more.ensures.all c.set_copies-else-more.ensures.each)
