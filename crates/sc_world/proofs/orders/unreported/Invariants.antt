use Rattle.std.proofs.Common.{◌≡◌, replicate, None}
use Rattle.sc_world.proofs.orders.unreported.Given as goal

-- as many as were pushed so far
abbrev pub invariant-loop-number : goal.invariant-loop-number
invariant-loop-number l = l.recorded.items ≡ replicate l._number None
