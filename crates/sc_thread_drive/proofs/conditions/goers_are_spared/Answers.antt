use Rattle.std.proofs.Common.{rules, ◌≡◌, ◌∙◌, IsTrue, true, false, true≢false, sym, subst, arith, ⊎_elim, Contains, slice_index_or}
use Rattle.std.proofs.lemmas.Bool.{cases_order}
use Rattle.std.proofs.lemmas.List.{get_or_default}
use Rattle.std.proofs.lemmas.List.Elements.{Contains-get_or}
use Rattle.sc_actor.specs.declared.schedules.Line.TheVariants.{Go}
use Rattle.sc_thread_drive.proofs.conditions.goers_are_spared.Goals as goal

pub returns-then-not-is_spared : goal.returns-then-not-is_spared
returns-then-not-is_spared g c =
    let lines = c.args.lines.now in let i = c.loop-line.line-index in let line = c.line-item.result in
    let no : c.is_spared.result ≡ false = search rules in
    let has : Contains lines line = subst (Contains lines) (sym c.line-item.is) (Contains-get_or lines i line c.loop-line-test.true) in
    (λ t. absurd (true≢false (sym t)), λ spares. subst IsTrue no (c.is_spared.ensures.1 (λ who is. spares who (subst (Contains lines) is has))))

pub loop-line-preserved : goal.loop-line-preserved
loop-line-preserved g c = λ k d who lt is.
    let lines = c.args.lines.now in let i = c.loop-line.line-index in let line = c.line-item.result in
    let yes : c.is_spared.result ≡ true = search rules in
    ⊎_elim (λ here. c.is_spared.ensures.0 yes who (c.line-item.is ∙ (get_or_default lines i line d c.loop-line-test.true ∙ (subst (λ n. slice_index_or lines n d ≡ Go who) here is))))
    (⊎_elim (λ before. c.loop-line.invariant k d who before is) (λ after. absurd (omega (arith, after, lt)))) (cases_order k i)
