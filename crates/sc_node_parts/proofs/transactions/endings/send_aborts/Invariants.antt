use Rattle.std.proofs.Common.{◌≡◌, drop}
use Rattle.sc_words.specs.declared.commands.votes.Outcome.TheVariants.{Abort}
use Rattle.sc_mail.specs.declared.bodies.MailBody.TheVariants.{TxOutcome}
use Rattle.sc_node_table.specs.Mails.{sent_all}
use Rattle.sc_node_parts.proofs.transactions.endings.send_aborts.Given as goal

-- what is left makes the whole
abbrev pub invariant-loop-node : goal.invariant-loop-node
invariant-loop-node l =
    sent_all l.me (drop l.node-index l.nodes) (TxOutcome l.tx l.part Abort) l.out ≡ sent_all l.me l.nodes (TxOutcome l.tx l.part Abort) l.initial.out
