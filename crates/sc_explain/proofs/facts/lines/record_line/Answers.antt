use Rattle.std.proofs.Common.{◌∙◌}
use Rattle.sc_explain.proofs.FactsProofs.Lines.{record_text}
use Rattle.sc_explain.proofs.facts.lines.record_line.Goals as goal

pub returns : goal.returns
returns c =
    c.from_vec.ensures
    ∙ record_text c.args.row c.args.group.now c.in_ok-text.text.items c.add_next.new.text.items c.add_next-2.new.text.items c.add_next-3.new.text.items c.add_next-4.new.text.items c.add_next-5.new.text.items c.add_next-6.new.text.items c.add_next-7.new.text.items c.add_next-8.new.text.items c.add_word.new.text.items
    c.in_ok-text.ensures.items c.in_ok-add_next.ensures c.in_ok-add_next-2.ensures c.in_ok-add_next-3.ensures c.in_ok-add_next-4.ensures c.in_ok-add_next-5.ensures c.in_ok-add_next-6.ensures c.in_ok-add_next-7.ensures c.in_ok-add_next-8.ensures c.in_ok-add_word.ensures
