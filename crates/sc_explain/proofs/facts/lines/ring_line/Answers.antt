use Rattle.std.proofs.Common.{◌∙◌}
use Rattle.sc_explain.proofs.FactsProofs.Lines.{ring_text}
use Rattle.sc_explain.proofs.facts.lines.ring_line.Goals as goal

pub returns : goal.returns
returns c =
    c.from_vec.ensures
    ∙ ring_text c.args.row c.args.ring.now c.in_ok-text.text.items c.add_word.new.text.items c.add_list.new.text.items c.add_next.new.text.items c.add_word-2.new.text.items
    c.in_ok-text.ensures.items c.in_ok-add_word.ensures c.in_ok-add_list.ensures c.in_ok-add_next.ensures c.in_ok-add_word-2.ensures
