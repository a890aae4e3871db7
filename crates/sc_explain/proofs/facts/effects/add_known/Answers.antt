use Rattle.std.proofs.Common.{◌≡◌, ◌++◌, List, ℕ, ap, sym, subst, ◌∙◌}
use Rattle.std.specs.Prelude.{OnOk}
use Rattle.serde_json.specs.Written.{compact_text}
use Rattle.sc_words.specs.declared.commands.effects.Effect.{Effect}
use Rattle.sc_explain.specs.facts.Effects.{effect_json}
use Rattle.sc_explain.proofs.FactsProofs.Lines.{done_text}
use Rattle.sc_explain.proofs.facts.effects.add_known.Goals as goal

pub returns-in_ok-add_next-in-Done : goal.returns-in_ok-add_next-in-Done
returns-in_ok-add_next-in-Done c =
    subst (λ (t : List ℕ). OnOk c.add_word.result (c.add_word.new.text.items ≡ t))
    (done_text c.args.text.now.items c.add_next.new.text.items c.in-Done.reply c.in_ok-add_next-in-Done.ensures
    ∙ ap (λ (e : Effect). c.args.text.now.items ++ compact_text (effect_json e)) (sym c.in-Done.is))
    c.add_word.ensures
