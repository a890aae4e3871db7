use Rattle.std.proofs.Common.{sym, ap, length, ◌∙◌, arith}
use Rattle.sc_node_table.specs.NodeDefinitions.{without_request}
use Rattle.sc_node_parts.proofs.ReplicaProofs.Places.{remove_here}
use Rattle.sc_node_parts.proofs.replica.queues.drop_request.Goals as goal

pub returns-then-is_request_of : goal.returns-then-is_request_of
returns-then-is_request_of c =
    let found = sym c.is_request_of.ensures ∙ c.if-is_request_of.true in
    c.drop_at.ensures
    ∙ sym (remove_here (λ cs. without_request cs c.args.client) c.loop-i.backlog.items c.loop-i.i c.index.result.now (omega (arith, c.loop-i-test.true, c.len-i-end.ensures, ap length c.loop-i.invariant.same)) (λ ys. rw (← c.index.ensures, found)))
    ∙ c.loop-i.invariant.passed
