use Rattle.std.proofs.Common.{sym, ap, ◌∙◌, ◌+◌, drop, get_or, arith}
use Rattle.std.proofs.lemmas.List.{drop_more}
use Rattle.sc_actor.specs.Definitions.{kth}
use Rattle.sc_thread_ledger.specs.LedgerDefinitions.{copies_in}
use Rattle.sc_actor.proofs.Lemmas.{kth-here, kth-past}
use Rattle.sc_thread_ledger.proofs.copies.kth_in.Goals as goal

pub loop-entry-preserved : goal.loop-entry-preserved
loop-entry-preserved c =
    let es = c.args.copies.now in let i = c.loop-entry.entry-index in let left = c.loop-entry.left in let e = get_or es i (0, 0) in (
      omega arith,
      c.loop-entry.invariant.1
          ∙ (ap (λ l. kth (copies_in l) left) (drop_more es i (0, 0) (omega arith))
          ∙ kth-past e.1 e.0 left (copies_in (drop (i + 1) es)) (omega arith)),
    )

pub returns-then-left-entry : goal.returns-then-left-entry
returns-then-left-entry c =
    let es = c.args.copies.now in let i = c.loop-entry.entry-index in let left = c.loop-entry.left in let e = get_or es i (0, 0) in
    sym (c.loop-entry.invariant.1
    ∙ (ap (λ l. kth (copies_in l) left) (drop_more es i (0, 0) (omega arith))
    ∙ kth-here e.1 e.0 left (copies_in (drop (i + 1) es)) c.loop-entry.invariant.0 (omega arith)))
