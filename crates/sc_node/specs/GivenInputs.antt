-- The inputs that a replica may be given.
use Rattle.std.specs.Prelude.{Bool, true, false}
use Rattle.sc_mail.specs.declared.bodies.MailBody.{MailBody}
use Rattle.sc_mail.specs.declared.bodies.MailBody.TheVariants.{Answer, TxPrepare, TxVote, TxOutcome, TxElsewhere, TxWatch, TxWatched, Told as ToldMail}
use Rattle.sc_node_table.specs.declared.ReplicaInput.{ReplicaInput}
use Rattle.sc_node_table.specs.declared.ReplicaInput.TheVariants.{Got, Tick, Told}
use Rattle.sc_node_table.specs.Node.{may_come}

-- whether a mail is of a transaction, or of no row of the table
abbrev pub is_of_transaction : MailBody → Bool
is_of_transaction (TxPrepare tx offer) = true
is_of_transaction (TxVote tx coord part vote) = true
is_of_transaction (TxOutcome tx part outcome) = true
is_of_transaction (TxElsewhere tx coord hint) = true
is_of_transaction (TxWatch tx watch) = true
is_of_transaction (TxWatched tx coord part vote) = true
is_of_transaction (Answer group seq answer) = true
is_of_transaction (ToldMail order result) = true
is_of_transaction _ = false

-- whether a replica may be given an input: of mails only a request comes from others than the nodes 1 to 32
abbrev pub may_take : ReplicaInput → Bool
may_take (Got mail) = may_come mail.from mail.body
may_take Tick = true
may_take (Told line) = true
