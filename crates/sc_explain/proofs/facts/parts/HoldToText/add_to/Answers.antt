use Rattle.std.proofs.Common.{◌≡◌, ◌++◌, List, ℕ, ap, sym, subst, ◌∙◌}
use Rattle.std.specs.Prelude.{OnOk}
use Rattle.serde_json.specs.Written.{compact_text}
use Rattle.sc_explain.specs.facts.Facts.{hold_json}
use Rattle.sc_explain.specs.declared.facts.facts.Hold.{Hold}
use Rattle.sc_explain.proofs.FactsProofs.Lines.{coordinating_text, free_text, promised_text, watching_text}
use Rattle.sc_explain.proofs.facts.parts.HoldToText.add_to.Goals as goal

pub returns-in-Free : goal.returns-in-Free
returns-in-Free c =
    subst (λ (t : List ℕ). OnOk c.add_word.result (c.add_word.new.text.items ≡ c.args.text.now.items ++ t)) (free_text ∙ ap (λ (lock : Hold). compact_text (hold_json lock)) (sym c.in-Free.is)) c.add_word.ensures

pub returns-in-Coordinating : goal.returns-in-Coordinating
returns-in-Coordinating c =
    subst (λ (t : List ℕ). OnOk c.add_bound.result (c.add_bound.new.text.items ≡ c.args.text.now.items ++ t)) (coordinating_text c.in-Coordinating.tx ∙ ap (λ (lock : Hold). compact_text (hold_json lock)) (sym c.in-Coordinating.is)) c.add_bound.ensures

pub returns-in-Promised : goal.returns-in-Promised
returns-in-Promised c =
    subst (λ (t : List ℕ). OnOk c.add_bound-in-Promised.result (c.add_bound-in-Promised.new.text.items ≡ c.args.text.now.items ++ t)) (promised_text c.in-Promised.tx ∙ ap (λ (lock : Hold). compact_text (hold_json lock)) (sym c.in-Promised.is)) c.add_bound-in-Promised.ensures

pub returns-in-Watching : goal.returns-in-Watching
returns-in-Watching c =
    subst (λ (t : List ℕ). OnOk c.add_bound-in-Watching.result (c.add_bound-in-Watching.new.text.items ≡ c.args.text.now.items ++ t)) (watching_text c.in-Watching.tx ∙ ap (λ (lock : Hold). compact_text (hold_json lock)) (sym c.in-Watching.is)) c.add_bound-in-Watching.ensures
