use Rattle.sc_live_plain.proofs.Laws.{plain_lines_end_quiet}
use Rattle.sc_live_plain.proofs.plain_lines_end_quiet.Goals as goal

pub returns : goal.returns
returns c = plain_lines_end_quiet
