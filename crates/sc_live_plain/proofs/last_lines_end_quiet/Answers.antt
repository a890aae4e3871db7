use Rattle.sc_live_plain.proofs.BudgetProofs.LastLineEnds.{last_lines_quiet}
use Rattle.sc_live_plain.proofs.last_lines_end_quiet.Goals as goal

pub returns : goal.returns
returns c = last_lines_quiet c.valid_scenarios_are_bounded.ensures
