use Rattle.std.proofs.Common.{◌≡◌, List, ℕ, subst, ◌∙◌, arith}
use Rattle.std.specs.Prelude.{OnOk}
use Rattle.sc_explain.proofs.TextsProofs.Lists.{list_begins, list_ends, list_goes_on}
use Rattle.sc_explain.proofs.texts.pieces.add_list.Goals as goal

pub loop-value-init : goal.loop-value-init
loop-value-init g c = list_begins g.T.ToText.json_of c.args.text.now.items c.add_word.new.text.items c.args.values.now c.in_ok-add_word.ensures

pub loop-value-preserved : goal.loop-value-preserved
loop-value-preserved g c =
    list_goes_on g.T.ToText.json_of c.args.values.now c.loop-value.value-index c.value-item.result c.loop-value.later c.loop-value.text.items c.add_comma.new.text.items c.add_to.new.text.items
    (omega (arith, c.loop-value-test.true)) c.value-item.is c.in_ok-add_comma.ensures c.in_ok-add_to.ensures
    ∙ c.loop-value.invariant

pub returns : goal.returns
returns g c =
    subst (λ (t : List ℕ). OnOk c.add_word-2.result (c.add_word-2.new.text.items ≡ t))
    (list_ends g.T.ToText.json_of c.args.values.now c.loop-value.value-index c.loop-value.later c.args.text.now.items c.loop-value.text.items (omega (arith, c.loop-value-test.false)) c.loop-value.invariant)
    c.add_word-2.ensures
