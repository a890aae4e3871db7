use Rattle.std.proofs.Common.{◌≡◌, ◌++◌, ◌+◌, filter}
use Rattle.sc_node_table.specs.NodeDefinitions.{nodes_to, is_in_some}
use Rattle.sc_node_choices.proofs.Numbers.{numbers_to}
use Rattle.sc_node_choices.proofs.nodes.nodes_to.Given as goal

-- what is left makes the whole
abbrev pub invariant-loop-node : goal.invariant-loop-node
invariant-loop-node l = l.nodes.items ++ filter (λ node. is_in_some l.sets node) (numbers_to (l.most + 1) l.node) ≡ nodes_to l.most l.sets
