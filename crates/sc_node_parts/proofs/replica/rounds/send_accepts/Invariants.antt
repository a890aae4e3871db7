use Rattle.std.proofs.Common.{◌≡◌, drop}
use Rattle.sc_node_table.specs.Values.{Accept}
use Rattle.sc_node_table.specs.NodeDefinitions.{sent_all}
use Rattle.sc_node_parts.proofs.replica.rounds.send_accepts.Given as goal

-- what is left makes the whole
abbrev pub invariant-loop-node : goal.invariant-loop-node
invariant-loop-node l = sent_all l.me (drop l.node-index l.nodes) (Accept l.group l.ballot l.slot l.command) l.out ≡ sent_all l.me l.nodes (Accept l.group l.ballot l.slot l.command) l.initial.out
