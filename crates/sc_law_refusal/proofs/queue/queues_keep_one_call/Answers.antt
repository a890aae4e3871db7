use Rattle.sc_law_refusal.proofs.QueueProofs.NodeQueues.{queues_keep_one_call}
use Rattle.sc_law_refusal.proofs.queue.queues_keep_one_call.Goals as goal

pub returns : goal.returns
returns c = queues_keep_one_call
