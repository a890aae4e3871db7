use Rattle.std.proofs.Common.{◌<◌, ◌≤◌, length, ◌∙◌, ap, sym, arith}
use Rattle.sc_node.proofs.Ticked.{ticked-more, ticked-whole, as-many}
use Rattle.sc_node.proofs.node.NodeCore.on_tick.Goals as goal

pub loop-i-preserved : goal.loop-i-preserved
loop-i-preserved c =
    let node = c.loop-i.self in
    let after = c.tick_at.new.self in
    let within : c.loop-i.i < length node.replicas = omega (arith, c.loop-i-test.true, c.loop-i.invariant.same, ap length c.replicas-i-end.ensures) in
    record {
      same = as-many c.loop-i.i node after c.loop-i.sent c.tick_at.new.sent within c.in_ok-tick_at.ensures ∙ c.loop-i.invariant.same;
      left = ticked-more c.loop-i.i node after c.loop-i.sent c.tick_at.new.sent within c.in_ok-tick_at.ensures ∙ c.loop-i.invariant.left;
    }

pub returns-clause-row : goal.returns-clause-row
returns-clause-row c =
    let node = c.loop-i.self in
    let over : length node.replicas ≤ c.loop-i.i = omega (arith, c.loop-i-test.false, c.loop-i.invariant.same, ap length c.replicas-i-end.ensures) in
    sym c.loop-i.invariant.left ∙ ticked-whole c.loop-i.i node c.loop-i.sent over
