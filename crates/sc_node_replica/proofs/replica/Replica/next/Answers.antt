use Rattle.std.proofs.Common.{◌∙◌, ap, subst, ◌≤◌, ◌+◌}
use Rattle.sc_words.specs.paxos.Logs.{next_of}
use Rattle.sc_node_table.specs.Slots.{slots_ahead}
use Rattle.sc_node_table.specs.Replica.{ReplicaState, last_slot}
use Rattle.sc_node_replica.proofs.replica.Replica.next.Goals as goal

pub returns-clause-same : goal.returns-clause-same
returns-clause-same c = c.next.ensures.same ∙ ap (λ (r : ReplicaState). next_of r.log) c.self.view_is

pub returns-clause-most : goal.returns-clause-most
returns-clause-most c = subst (λ (r : ReplicaState). next_of r.log ≤ last_slot + slots_ahead) c.self.view_is c.next.ensures.most
