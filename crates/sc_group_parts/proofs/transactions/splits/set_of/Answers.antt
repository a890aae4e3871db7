use Rattle.std.proofs.Common.{◌+◌, ◌∙◌, sym}
use Rattle.std.proofs.lemmas.List.{take_more}
use Rattle.sc_group_parts.proofs.TransactionsProofs.RisingNodes.{earlier, place_after}
use Rattle.sc_group_parts.proofs.transactions.splits.set_of.Goals as goal

pub put_last-requires-clause-above : goal.put_last-requires-clause-above
put_last-requires-clause-above c =
    let nodes = c.args.nodes.now in
    let k = c.loop-node.node-index in
    let place = place_after nodes k c.loop-node-test.true in
    rw (c.loop-node.invariant, place.1) (earlier nodes (k + 1) c.requires.ascending place.0)

pub loop-node-preserved : goal.loop-node-preserved
loop-node-preserved c =
    let nodes = c.args.nodes.now in
    let k = c.loop-node.node-index in
    let place = place_after nodes k c.loop-node-test.true in
    c.put_last.ensures
    ∙ rw (c.loop-node.invariant, place.1) (sym (take_more nodes (k + 1) 0 place.0))
