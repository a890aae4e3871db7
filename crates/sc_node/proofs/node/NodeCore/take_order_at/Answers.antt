use Rattle.std.proofs.Common.{get_or, sym, subst, ◌∙◌, ap, arith}
use Rattle.sc_node_table.specs.Node.{NodeState, group_of_order, on_order}
use Rattle.sc_node_table.specs.Ordering.{ordered_row, names_after}
use Rattle.sc_node.specs.Places.{StandsAt}
use Rattle.sc_node.proofs.Standing.{ordered-at}
use Rattle.sc_node.proofs.node.NodeCore.take_order_at.Goals as goal

pub index_mut-requires : goal.index_mut-requires
index_mut-requires c =
    let stands = subst (λ (n : NodeState). StandsAt (group_of_order c.args.line.now.order) n.replicas c.args.i) (sym c.self.view_is) c.requires in
    omega (arith, stands.within, c.self.inside.replicas.ok.0)

pub returns : goal.returns
returns c =
    let stands = subst (λ (n : NodeState). StandsAt (group_of_order c.args.line.now.order) n.replicas c.args.i) (sym c.self.view_is) c.requires in
    let node : NodeState = record { me = c.self.inside.me; draws = c.self.inside.draws; policy = c.self.inside.policy; replicas = c.self.inside.replicas.items } in
    ap (λ (n : NodeState). on_order c.args.line.now n) (sym c.self.view_is)
    ∙ ordered-at c.args.line.now node c.args.i c.index_mut.result.now c.on_order.new.replica c.on_order.new.out c.on_order.new.draws stands
    (c.in_ok-on_order.ensures.row
    ∙ ap (λ r. ordered_row c.self.inside.draws c.args.line.now (r, c.new-sent.result)) c.index_mut.ensures.value
    ∙ ap (λ mails. ordered_row c.self.inside.draws c.args.line.now (get_or c.self.inside.replicas.items c.args.i c.index_mut.result.now, mails)) c.new-sent.ensures)
    (c.in_ok-on_order.ensures.names ∙ ap (λ r. names_after c.self.inside.draws c.args.line.now r) c.index_mut.ensures.value)
