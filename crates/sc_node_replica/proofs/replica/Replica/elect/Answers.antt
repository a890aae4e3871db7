use Rattle.std.proofs.Common.{ap, ◌∙◌}
use Rattle.sc_node_table.specs.Election.{open_nodes}
use Rattle.sc_node_table.specs.Replica.{ReplicaState}
use Rattle.sc_node_replica.proofs.Unsent.{elected-none}
use Rattle.sc_node_replica.proofs.replica.Replica.elect.Goals as goal

pub returns-in_err-nodes-clause-none : goal.returns-in_err-nodes-clause-none
returns-in_err-nodes-clause-none c = λ e.
    let nobody = elected-none c.args.self.now (λ h. c.if-self.false (ap (λ (r : ReplicaState). r.top.round) c.self.view_is ∙ h)) e in
    let ok = c.in_err-nodes.ensures.none (ap (λ (r : ReplicaState). open_nodes r.sets) c.self.view_is ∙ nobody) in
    absurd (cc)

pub returns-clause-none : goal.returns-clause-none
returns-clause-none c = λ e.
    let nobody = elected-none c.args.self.now (λ h. c.if-self.false (ap (λ (r : ReplicaState). r.top.round) c.self.view_is ∙ h)) e in
    c.send_prepares.ensures.none (c.as_slice.ensures.value ∙ c.in_ok-nodes.ensures.nodes ∙ ap (λ (r : ReplicaState). open_nodes r.sets) c.self.view_is ∙ nobody)
