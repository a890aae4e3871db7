use Rattle.std.proofs.Common.{◌∙◌}
use Rattle.sc_node_parts.proofs.ReplicaProofs.Requests.{popped_head, popped_rest}
use Rattle.sc_node_parts.proofs.replica.queues.take_head.Goals as goal

pub returns-clause-head : goal.returns-clause-head
returns-clause-head c = popped_head c.args.queue.now.items c.pop_front.new.self.items c.pop_front.result c.pop_front.ensures.items c.pop_front.ensures.rest

pub returns-clause-rest : goal.returns-clause-rest
returns-clause-rest c = c.pop_front.ensures.rest ∙ popped_rest c.args.queue.now.items
