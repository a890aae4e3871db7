use Rattle.sc_live_plain.proofs.BudgetProofs.LightJournals.{journals_light}
use Rattle.sc_live_plain.proofs.plain_journals_are_light.Goals as goal

pub returns : goal.returns
returns c = journals_light c.valid_scenarios_are_bounded.ensures
