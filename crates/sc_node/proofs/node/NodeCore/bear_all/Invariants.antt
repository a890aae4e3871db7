use Rattle.std.proofs.Common.{◌≡◌, drop}
use Rattle.sc_node_table.specs.Node.{with_children}
use Rattle.sc_node.proofs.node.NodeCore.bear_all.Given as goal

-- what is left makes the whole
abbrev pub invariant-loop-child : goal.invariant-loop-child
invariant-loop-child l = with_children (drop l.child-index l.made) l.self ≡ with_children l.made l.fn.self
