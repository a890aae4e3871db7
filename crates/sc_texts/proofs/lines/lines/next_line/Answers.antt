use Rattle.std.proofs.Common.{sym, ◌∙◌}
use Rattle.sc_texts.proofs.LinesProofs.Cuts.{lines_cut_first}
use Rattle.sc_texts.proofs.lines.lines.next_line.Goals as goal

pub returns-in-Some-clause-lines : goal.returns-in-Some-clause-lines
returns-in-Some-clause-lines c = lines_cut_first c.args.is_long c.args.text.now c.in-Some.at (sym c.line_end.ensures ∙ c.in-Some.is)
