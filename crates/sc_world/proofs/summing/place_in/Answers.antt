use Rattle.std.proofs.Common.{◌≡◌, ◌+◌, ap, arith}
use Rattle.sc_world.proofs.Places.{here, later, end, within}
use Rattle.sc_world.proofs.summing.place_in.Goals as goal

pub returns-then-lo-other : goal.returns-then-lo-other
returns-then-lo-other c =
    let i = c.loop-other.other-index in
    let at : c.loop-other.at ≡ _ = here c.args.lines.now c.args.lo i c.other-item.result c.loop-other.at (omega (arith, c.loop-other-test.true)) c.other-item.is (omega (arith, c.if-lo-other.true)) c.loop-other.invariant.count c.loop-other.invariant.left in
    record { value = at; within = within c.args.lines.now c.args.lo c.loop-other.at at }

pub loop-other-preserved : goal.loop-other-preserved
loop-other-preserved c = record {
  count = ap (λ n. n + 1) c.loop-other.invariant.count;
  left = later c.args.lines.now c.args.lo c.loop-other.other-index c.other-item.result (omega (arith, c.loop-other-test.true)) c.other-item.is (omega (arith, c.if-lo-other.false)) c.loop-other.invariant.left;
}

pub returns : goal.returns
returns c =
    let at = end c.args.lines.now c.args.lo c.loop-other.other-index c.loop-other.at (omega (arith, c.loop-other-test.false)) c.loop-other.invariant.count c.loop-other.invariant.left in
    record { value = at; within = within c.args.lines.now c.args.lo c.loop-other.at at }
