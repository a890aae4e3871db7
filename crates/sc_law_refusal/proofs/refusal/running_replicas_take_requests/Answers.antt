use Rattle.sc_law_refusal.proofs.RefusalProofs.Inputs.{requests_are_taken}
use Rattle.sc_law_refusal.proofs.refusal.running_replicas_take_requests.Goals as goal

pub returns : goal.returns
returns c = requests_are_taken
