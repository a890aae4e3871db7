use Rattle.std.proofs.Common.{◌≡◌, List, ℕ, subst}
use Rattle.std.specs.Prelude.{OnOk}
use Rattle.sc_explain.proofs.FactsProofs.Lines.{cut_text}
use Rattle.sc_explain.proofs.facts.parts.CutToText.add_to.Goals as goal

pub returns : goal.returns
returns c =
    subst (λ (t : List ℕ). OnOk c.add_word.result (c.add_word.new.text.items ≡ t))
    (cut_text c.args.text.now.items c.add_next.new.text.items c.add_next-2.new.text.items c.args.self.now c.in_ok-add_next.ensures c.in_ok-add_next-2.ensures)
    c.add_word.ensures
