use Rattle.sc_law_refusal.proofs.RefusalProofs.NodeSteps.{nodes_have_causes}
use Rattle.sc_law_refusal.proofs.refusal.nodes_have_causes.Goals as goal

pub returns : goal.returns
returns c = nodes_have_causes
