use Rattle.std.proofs.Common.{◌≡◌, drop}
use Rattle.sc_node_table.specs.Values.{Prepare}
use Rattle.sc_node_table.specs.NodeDefinitions.{sent_all}
use Rattle.sc_node_parts.proofs.replica.rounds.send_prepares.Given as goal

-- what is left makes the whole
abbrev pub invariant-loop-node : goal.invariant-loop-node
invariant-loop-node l = sent_all l.me (drop l.node-index l.nodes) (Prepare l.group l.ballot l.from_slot) l.out ≡ sent_all l.me l.nodes (Prepare l.group l.ballot l.from_slot) l.initial.out
