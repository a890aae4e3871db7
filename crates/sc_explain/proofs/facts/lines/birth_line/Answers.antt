use Rattle.std.proofs.Common.{◌∙◌}
use Rattle.sc_explain.proofs.FactsProofs.Lines.{birth_text}
use Rattle.sc_explain.proofs.facts.lines.birth_line.Goals as goal

pub returns : goal.returns
returns c =
    c.from_vec.ensures
    ∙ birth_text c.args.row c.args.name c.args.members.now c.in_ok-text.text.items c.add_next.new.text.items c.add_next-2.new.text.items c.add_next-3.new.text.items c.add_word.new.text.items
    c.in_ok-text.ensures.items c.in_ok-add_next.ensures c.in_ok-add_next-2.ensures c.in_ok-add_next-3.ensures c.in_ok-add_word.ensures
