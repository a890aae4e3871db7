use Rattle.std.proofs.Common.{◌≡◌, [], length}
use Rattle.sc_node.proofs.Ticked.{ticked_from}
use Rattle.sc_node.proofs.node.NodeCore.on_tick.Given as goal

-- those so far have ticked
abbrev pub invariant-loop-i : goal.invariant-loop-i
invariant-loop-i l = record {
  same : length l.self.replicas ≡ length l.fn.self.replicas;
  left : ticked_from l.i l.self l.sent ≡ ticked_from 0 l.fn.self [];
}
