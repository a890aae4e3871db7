use Rattle.sc_law_refusal.proofs.QueueProofs.NodeQueues.{steps_keep_one_call}
use Rattle.sc_law_refusal.proofs.queue.steps_keep_one_call.Goals as goal

pub returns : goal.returns
returns c = steps_keep_one_call
