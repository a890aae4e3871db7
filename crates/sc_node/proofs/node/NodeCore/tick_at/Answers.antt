use Rattle.std.proofs.Common.{◌<◌, length, sym, subst, ◌∙◌, ap, arith}
use Rattle.sc_node_table.specs.Node.{NodeState}
use Rattle.sc_node.specs.Ticking.{ticked_at}
use Rattle.sc_node.proofs.Standing.{ticked-there}
use Rattle.sc_node.proofs.node.NodeCore.tick_at.Goals as goal

pub index_mut-requires : goal.index_mut-requires
index_mut-requires c =
    let within : c.args.i < length c.self.inside.replicas.items = subst (λ (n : NodeState). c.args.i < length n.replicas) (sym c.self.view_is) c.requires in
    omega (arith, within, c.self.inside.replicas.ok.0)

pub returns : goal.returns
returns c = λ d.
    let rs = c.self.inside.replicas.items in
    let within : c.args.i < length rs = subst (λ (n : NodeState). c.args.i < length n.replicas) (sym c.self.view_is) c.requires in
    let node : NodeState = record { me = c.self.inside.me; draws = c.self.inside.draws; policy = c.self.inside.policy; replicas = rs } in
    ticked-there node c.args.i c.index_mut.result.now c.on_tick.new.replica c.args.sent.now c.on_tick.new.out c.on_tick.new.draws within c.index_mut.ensures.value
    c.in_ok-on_tick.ensures.row c.in_ok-on_tick.ensures.names d
    ∙ ap (λ (n : NodeState). ticked_at c.args.i d (n, c.args.sent.now)) c.self.view_is
