-- What a settled replica sends again at a tick.
use Rattle.std.specs.Prelude.{ℕ, ◌-◌, List, if◌then◌else◌, Option, Some, None}
use Rattle.sc_words.specs.declared.commands.commands.Command.{Command}
use Rattle.sc_mail.specs.declared.bodies.MailBody.TheVariants.{Accept}
use Rattle.sc_mail.specs.declared.bodies.Mail.{Mail}
use Rattle.sc_words.specs.paxos.Logs.{entry_at}
use Rattle.sc_node_table.specs.Replica.{ReplicaState, name_of, next, flying, is_idle}
use Rattle.sc_node_table.specs.Mails.{sent_all}
use Rattle.sc_node_table.specs.Rows.{uncounted, last_entry_sent, asked_again}

-- an accept of this command, if there is one, to each of these members whose vote was not counted at the slot
abbrev pub asked_for : Option Command → ReplicaState → ℕ → List ℕ → List Mail → List Mail
asked_for None r slot set mails = mails
asked_for (Some command) r slot set mails = sent_all r.me (uncounted r slot set) (Accept (name_of r) r.leader.ballot slot command) mails

-- an accept of the command in flight at the slot, if there is one, to each of these members whose vote was not counted there
abbrev pub asked_at : ReplicaState → ℕ → List ℕ → List Mail → List Mail
asked_at r slot set mails = asked_for (flying r slot) r slot set mails

-- a settled replica sends the accepts again of each slot in flight, and with nothing in flight or ready the last entry
abbrev pub repeated : ReplicaState → List Mail → List Mail
repeated r mails = if is_idle r then last_entry_sent (entry_at (next r - 1) r.log) r mails else asked_again r (next r) r.sets mails
