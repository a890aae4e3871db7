use Rattle.std.proofs.Common.{◌≡◌, ◌++◌, List, ℕ, ap, sym, subst, ◌∙◌}
use Rattle.std.specs.Prelude.{OnOk}
use Rattle.serde_json.specs.Written.{compact_text}
use Rattle.sc_base.specs.declared.ops.Op.{Op}
use Rattle.sc_json_text.specs.rows.Ops.{op_json}
use Rattle.sc_explain.proofs.TextsProofs.Pieces.{add_text, cas_text, del_text, get_text, put_text}
use Rattle.sc_explain.proofs.texts.values.OpToText.add_to.Goals as goal

pub returns-in-Get : goal.returns-in-Get
returns-in-Get c =
    subst (λ (t : List ℕ). OnOk c.add_keyed.result (c.add_keyed.new.text.items ≡ c.args.text.now.items ++ t)) (get_text c.in-Get.key ∙ ap (λ (op : Op). compact_text (op_json op)) (sym c.in-Get.is)) c.add_keyed.ensures

pub returns-in-Put : goal.returns-in-Put
returns-in-Put c =
    subst (λ (t : List ℕ). OnOk c.add_pair.result (c.add_pair.new.text.items ≡ c.args.text.now.items ++ t)) (put_text c.in-Put.key c.in-Put.value ∙ ap (λ (op : Op). compact_text (op_json op)) (sym c.in-Put.is)) c.add_pair.ensures

pub returns-in-Del : goal.returns-in-Del
returns-in-Del c =
    subst (λ (t : List ℕ). OnOk c.add_keyed-in-Del.result (c.add_keyed-in-Del.new.text.items ≡ c.args.text.now.items ++ t)) (del_text c.in-Del.key ∙ ap (λ (op : Op). compact_text (op_json op)) (sym c.in-Del.is)) c.add_keyed-in-Del.ensures

pub returns-in-Add : goal.returns-in-Add
returns-in-Add c =
    subst (λ (t : List ℕ). OnOk c.add_pair-in-Add.result (c.add_pair-in-Add.new.text.items ≡ c.args.text.now.items ++ t)) (add_text c.in-Add.key c.in-Add.value ∙ ap (λ (op : Op). compact_text (op_json op)) (sym c.in-Add.is)) c.add_pair-in-Add.ensures

pub returns-in_ok-add_next-in-Cas : goal.returns-in_ok-add_next-in-Cas
returns-in_ok-add_next-in-Cas c =
    subst (λ (t : List ℕ). OnOk c.add_pair-in-Cas.result (c.add_pair-in-Cas.new.text.items ≡ t))
    (cas_text c.args.text.now.items c.add_next.new.text.items c.in-Cas.key c.in-Cas.expect c.in-Cas.value c.in_ok-add_next-in-Cas.ensures
    ∙ ap (λ (op : Op). c.args.text.now.items ++ compact_text (op_json op)) (sym c.in-Cas.is))
    c.add_pair-in-Cas.ensures
