use Rattle.std.proofs.Common.{◌≡◌, drop}
use Rattle.sc_node_table.specs.Mails.{sent_all}
use Rattle.sc_node_table.specs.Questions.{question}
use Rattle.sc_node_parts.proofs.transactions.questions.ask_nodes.Given as goal

-- what is left makes the whole
abbrev pub invariant-loop-node : goal.invariant-loop-node
invariant-loop-node l =
    sent_all l.me (drop l.node-index l.nodes) (question l.me l.core l.tx l.body l.heard) l.out
    ≡ sent_all l.me l.nodes (question l.me l.core l.tx l.body l.heard) l.initial.out
