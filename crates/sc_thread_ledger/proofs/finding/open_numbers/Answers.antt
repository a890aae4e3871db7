use Rattle.std.proofs.Common.{sym, ap, ◌∙◌, arith, ◌+◌, ◌++◌}
use Rattle.std.proofs.lemmas.List.{append-nil}
use Rattle.sc_thread_ledger.specs.LedgerDefinitions.{counts_for}
use Rattle.sc_actor.proofs.Lemmas.{numbers-end}
use Rattle.sc_thread_ledger.proofs.finding.open_numbers.Goals as goal

pub returns : goal.returns
returns c =
    sym (append-nil c.loop-i.found.items)
    ∙ (ap (λ l. c.loop-i.found.items ++ l) (sym (numbers-end (counts_for c.args.actors c.args.crashed.now 0) (c.loop-i.i + 1) c.loop-i.i c.args.receivers.now c.args.counts.now (omega arith)))
    ∙ c.loop-i.invariant)
