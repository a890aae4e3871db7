use Rattle.sc_law_refusal.proofs.RefusalProofs.Inputs.{steps_have_causes}
use Rattle.sc_law_refusal.proofs.refusal.refusals_have_causes.Goals as goal

pub returns : goal.returns
returns c = steps_have_causes
