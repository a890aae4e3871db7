use Rattle.sc_live_plain.proofs.BudgetProofs.LightJournals.{last_lines_light}
use Rattle.sc_live_plain.proofs.last_lines_are_light.Goals as goal

pub returns : goal.returns
returns c = last_lines_light c.valid_scenarios_are_bounded.ensures
