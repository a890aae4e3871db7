use Rattle.std.proofs.Common.{ap, sym, ◌∙◌, subst, arith, ◌+◌, ◌-◌, ◌<◌, ◌≤◌, cond, get_or, drop}
use Rattle.sc_actor.specs.Definitions.{numbers, kth}
use Rattle.sc_thread_ledger.specs.LedgerDefinitions.{counts_for}
use Rattle.sc_actor.proofs.Lemmas.{kth-later, kth-found, numbers-end, kth-none, get_at}
use Rattle.sc_thread_ledger.proofs.finding.kth_open.Goals as goal

pub loop-i-preserved : goal.loop-i-preserved
loop-i-preserved c =
    let test = counts_for c.args.actors c.args.crashed.now c.args.who in let to = get_or c.args.receivers.now c.loop-i.i 0 in let same = get_at c.args.receivers.now c.loop-i.i to (omega arith) in
    let fewer : cond (test to) (get_or c.args.counts.now c.loop-i.i 0) 0 < c.loop-i.left = subst (λ n. n < c.loop-i.left) c.open_copies-count.ensures c.if-left-count.false in (
      omega arith,
      c.loop-i.invariant.1
          ∙ kth-later test (c.loop-i.i + 1) c.loop-i.i c.loop-i.left c.args.receivers.now c.args.counts.now to (omega arith) (omega arith) same fewer
          ∙ ap (λ n. kth (numbers test (c.loop-i.i + 1 + 1) (drop (c.loop-i.i + 1) c.args.receivers.now) (drop (c.loop-i.i + 1) c.args.counts.now)) (c.loop-i.left - n)) (sym c.open_copies-count.ensures),
    )

pub returns-then-left-count : goal.returns-then-left-count
returns-then-left-count c =
    let test = counts_for c.args.actors c.args.crashed.now c.args.who in let to = get_or c.args.receivers.now c.loop-i.i 0 in let same = get_at c.args.receivers.now c.loop-i.i to (omega arith) in
    sym (c.loop-i.invariant.1
    ∙ kth-found test (c.loop-i.i + 1) c.loop-i.i c.loop-i.left c.args.receivers.now c.args.counts.now to (omega arith) (omega arith) same c.loop-i.invariant.0
    (subst (λ n. c.loop-i.left ≤ n) c.open_copies-count.ensures c.if-left-count.true))

pub returns : goal.returns
returns c =
    let test = counts_for c.args.actors c.args.crashed.now c.args.who in
    sym (c.loop-i.invariant.1 ∙ ap (λ xs. kth xs c.loop-i.left) (numbers-end test (c.loop-i.i + 1) c.loop-i.i c.args.receivers.now c.args.counts.now (omega arith)) ∙ kth-none c.loop-i.left)
