use Rattle.std.proofs.Common.{◌≡◌, filter, not, take}
use Rattle.sc_words.specs.paxos.PaxosDefinitions.{has_counted}
use Rattle.sc_node_choices.proofs.nodes.uncounted.Given as goal

-- those so far
abbrev pub invariant-loop-node : goal.invariant-loop-node
invariant-loop-node g l = l.nodes.items ≡ filter (λ node. not (has_counted l.slot node l.leader)) (take l.node-index l.node-items)
