use Rattle.std.proofs.Common.{◌≡◌, drop}
use Rattle.sc_words.specs.declared.commands.votes.Vote.TheVariants.{Yes}
use Rattle.sc_mail.specs.declared.bodies.MailBody.TheVariants.{TxVote}
use Rattle.sc_group_table.specs.machine.Plans.{frozen_of}
use Rattle.sc_node_table.specs.Mails.{sent_all}
use Rattle.sc_node_parts.proofs.transactions.votes.send_yes_to_all.Given as goal

-- what is left makes the whole
abbrev pub invariant-loop-node : goal.invariant-loop-node
invariant-loop-node l =
    sent_all l.me (drop l.node-index l.nodes) (TxVote l.tx l.offer.coord l.offer.part (Yes (frozen_of l.machine))) l.out
    ≡ sent_all l.me l.nodes (TxVote l.tx l.offer.coord l.offer.part (Yes (frozen_of l.machine))) l.initial.out
