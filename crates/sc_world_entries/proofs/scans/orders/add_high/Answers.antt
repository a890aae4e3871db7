use Rattle.std.proofs.Common.{sym, ap, ◌∙◌, arith}
use Rattle.sc_base.specs.Arc.{holds}
use Rattle.sc_words.specs.ideal.IdealStore.{holds_key}
use Rattle.sc_world_entries.proofs.ScanProofs.PairsInArcs.{passes_some}
use Rattle.sc_world_entries.proofs.scans.orders.add_high.Goals as goal

pub returns-in_err-add-clause-none : goal.returns-in_err-add-clause-none
returns-in_err-add-clause-none c = λ none.
    absurd (passes_some (λ pair. holds_key c.args.part.now pair.0) c.args.pairs.now c.loop-pair.pair-index c.pair-item.result (omega (arith, c.loop-pair-test.true)) c.pair-item.is (ap (holds c.args.part.now) (sym c.pos-pos.ensures) ∙ sym c.holds.ensures ∙ c.if-holds.true) none)
