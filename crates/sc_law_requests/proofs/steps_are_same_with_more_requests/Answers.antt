use Rattle.sc_law_requests.proofs.SameSteps.{same_from_birth, steps_same}
use Rattle.sc_law_requests.proofs.steps_are_same_with_more_requests.Goals as goal

pub returns-clause-step : goal.returns-clause-step
returns-clause-step c = steps_same

pub returns-clause-birth : goal.returns-clause-birth
returns-clause-birth c = same_from_birth
