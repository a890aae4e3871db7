use Rattle.std.proofs.Common.{subst, ap, ◌∙◌}
use Rattle.sc_node_table.specs.Queues.{queued_number}
use Rattle.sc_node_table.specs.Replica.{ReplicaState}
use Rattle.sc_node_replica.proofs.Queueing.{Stays, put_back-stays}
use Rattle.sc_node_replica.proofs.replica.Replica.put_back.Goals as goal

pub returns-in-Call-clause-none : goal.returns-in-Call-clause-none
returns-in-Call-clause-none c = λ h.
    let stays = subst (λ x. Stays x c.args.self.now) c.in-Call.is (put_back-stays c.args.command c.args.self.now h) in
    c.put_request.ensures.later stays.0 (ap (λ (r : ReplicaState). queued_number r.backlog c.in-Call.client) c.self.view_is ∙ stays.1.0) stays.1.1
