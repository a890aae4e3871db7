use Rattle.std.proofs.Common.{sym, ap, ◌∙◌, refl, arith, ◌+◌, ◌++◌, ◌∷◌, []}
use Rattle.sc_thread_ledger.specs.LedgerDefinitions.{counts_for}
use Rattle.sc_thread_ledger.proofs.Holding.{take_here, take_other}
use Rattle.sc_thread_ledger.proofs.queues.without.Goals.{then-stays+in_ok-add_last, else-stays}
use Rattle.sc_thread_ledger.proofs.queues.without.Goals as goal

pub loop-i-preserved : goal.loop-i-preserved
loop-i-preserved c =
    let test = counts_for c.args.actors (c.args.crashed.now ++ c.args.who ∷ []) 0 in
    elim c.if-stays.branch [
      | then-stays+in_ok-add_last w ↦ ap (λ m. m.items) w.all-is
          ∙ take_here test c.loop-i.i c.args.receivers.now c.args.counts.now (omega arith) c.requires.same c.loop-i.all.items w.add_last.new.copies.items (c.loop-i.i + 1) c.loop-i.invariant refl (sym c.stays.ensures ∙ w.if-stays.true) w.in_ok-add_last.ensures
      | else-stays w ↦ ap (λ m. m.items) w.all-is
          ∙ take_other test c.loop-i.i c.args.receivers.now c.args.counts.now (omega arith) c.requires.same c.loop-i.all.items c.loop-i.invariant (sym c.stays.ensures ∙ w.if-stays.false)
    ]
