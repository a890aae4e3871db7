use Rattle.sc_scenario.proofs.ScenarioProofs.Texts.{texts_bounded}
use Rattle.sc_scenario.proofs.scenario.reading.valid_scenarios_are_bounded.Goals as goal

pub returns : goal.returns
returns c = texts_bounded
