use Rattle.std.proofs.Common.{◌≡◌, drop}
use Rattle.sc_node_table.specs.Values.{Learn}
use Rattle.sc_node_table.specs.NodeDefinitions.{sent_others}
use Rattle.sc_node_parts.proofs.replica.rounds.send_learns.Given as goal

-- what is left makes the whole
abbrev pub invariant-loop-node : goal.invariant-loop-node
invariant-loop-node l = sent_others l.me (drop l.node-index l.nodes) (Learn l.group l.slot l.command) l.out ≡ sent_others l.me l.nodes (Learn l.group l.slot l.command) l.initial.out
