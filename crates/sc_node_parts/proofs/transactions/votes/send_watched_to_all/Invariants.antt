use Rattle.std.proofs.Common.{◌≡◌, drop}
use Rattle.sc_words.specs.declared.commands.votes.Past.TheVariants.{Yes}
use Rattle.sc_mail.specs.declared.bodies.MailBody.TheVariants.{TxWatched}
use Rattle.sc_node_table.specs.Mails.{sent_all}
use Rattle.sc_node_parts.proofs.transactions.votes.send_watched_to_all.Given as goal

-- what is left makes the whole
abbrev pub invariant-loop-node : goal.invariant-loop-node
invariant-loop-node l =
    sent_all l.me (drop l.node-index l.nodes) (TxWatched l.tx l.watch.coord l.watch.part Yes) l.out
    ≡ sent_all l.me l.nodes (TxWatched l.tx l.watch.coord l.watch.part Yes) l.initial.out
