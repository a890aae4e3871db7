use Rattle.std.proofs.Common.{◌≡◌, sym, subst, None, IfOk}
use Rattle.sc_base.specs.declared.names.Draw.{Draw}
use Rattle.sc_node_table.specs.Node.{NodeState, replica_of, group_of_order, on_order}
use Rattle.sc_node.proofs.Standing.{ordered-nowhere}
use Rattle.sc_node.proofs.node.NodeCore.on_order.Goals as goal

pub returns-in-None : goal.returns-in-None
returns-in-None c =
    let group = group_of_order c.args.line.now.order in
    let node : NodeState = record { me = c.self.inside.me; draws = c.self.inside.draws; policy = c.self.inside.policy; replicas = c.self.inside.replicas.items } in
    let nowhere : replica_of group c.args.self.now.replicas ≡ None =
    subst (λ (g : Draw). replica_of g c.args.self.now.replicas ≡ None) c.group_of_order.ensures c.in-None.ensures in
    subst (λ (n : NodeState). IfOk c.report_no_leader.result (λ sent. on_order c.args.line.now n ≡ (n, sent))) c.self.view_is
    (ordered-nowhere c.args.line.now node c.report_no_leader.result (subst (λ (n : NodeState). replica_of group n.replicas ≡ None) (sym c.self.view_is) nowhere) c.report_no_leader.ensures)
