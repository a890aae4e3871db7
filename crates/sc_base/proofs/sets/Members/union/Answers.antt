use Rattle.std.proofs.Common.{length, ap, arith}
use Rattle.sc_base.proofs.UnionLemmas.{next_fits}
use Rattle.sc_base.proofs.sets.Members.union.Goals as goal

pub put-requires : goal.put-requires
put-requires c =
    let long = ap length c.as_slice-node-items.ensures.same in
    let next = next_fits c.args.self.now c.loop-node.all c.args.other.now c.loop-node.node-index (omega (arith, long, c.loop-node-test.true)) c.loop-node.invariant c.requires in
    rw c.as_slice-node-items.ensures.same next
