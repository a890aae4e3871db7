use Rattle.std.proofs.Common.{◌≡◌, drop}
use Rattle.sc_node_table.specs.Install.{welcomed_all}
use Rattle.sc_node_replica.proofs.replica.Replica.welcome_all.Given as goal

-- what is left makes the whole
abbrev pub invariant-loop-node : goal.invariant-loop-node
invariant-loop-node l = welcomed_all (drop l.node-index l.nodes) (l.self, l.out) ≡ welcomed_all l.nodes (l.self, l.initial.out)
