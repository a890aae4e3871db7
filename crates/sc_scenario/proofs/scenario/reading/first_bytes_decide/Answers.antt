use Rattle.sc_scenario.proofs.ScenarioProofs.Verdicts.{first_bytes}
use Rattle.sc_scenario.proofs.scenario.reading.first_bytes_decide.Goals as goal

pub returns : goal.returns
returns c = first_bytes
