use Rattle.std.proofs.Common.{◌≡◌, filter, not, take}
use Rattle.sc_base.specs.Definitions.{is_member}
use Rattle.sc_node_choices.proofs.nodes.not_among.Given as goal

-- those so far
abbrev pub invariant-loop-node : goal.invariant-loop-node
invariant-loop-node l = l.others.items ≡ filter (λ node. not (is_member l.set node)) (take l.node-index l.nodes)
