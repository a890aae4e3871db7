use Rattle.std.proofs.Common.{◌≡◌, take}
use Rattle.sc_node_table.specs.Slots.{slots_ahead}
use Rattle.sc_node_table.specs.Node.{born_replicas}
use Rattle.sc_node.proofs.node.born_replicas.Given as goal

-- those of the groups so far
abbrev pub invariant-loop-base : goal.invariant-loop-base
invariant-loop-base l = l.replicas.items ≡ born_replicas slots_ahead l.me (take l.base-index l.groups)
