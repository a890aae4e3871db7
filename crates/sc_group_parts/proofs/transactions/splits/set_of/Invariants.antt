use Rattle.std.proofs.Common.{◌≡◌, ◌+◌, take}
use Rattle.sc_group_parts.proofs.transactions.splits.set_of.Given as goal

abbrev pub invariant-loop-node : goal.invariant-loop-node
invariant-loop-node l = l.members ≡ take (l.node-index + 1) l.nodes
