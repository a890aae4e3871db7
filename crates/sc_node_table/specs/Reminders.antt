-- Reminders at a tick: a coordinator asks again, and a participant and a watcher send their Yes again.
use Rattle.std.specs.Prelude.{ℕ, ◌+◌, ◌-◌, ◌^◌, ◌==◌, nat_le, List, if◌then◌else◌}
use Rattle.sc_base.specs.declared.names.Draw.{Draw}
use Rattle.sc_words.specs.declared.commands.commands.Command.TheVariants.{GiveUp}
use Rattle.sc_words.specs.declared.commands.cores.Lock.{Lock}
use Rattle.sc_words.specs.declared.commands.cores.Lock.TheVariants.{Free, Coordinating, Promised, Watching}
use Rattle.sc_words.specs.declared.commands.votes.Past.TheVariants as Cast
use Rattle.sc_words.specs.declared.commands.votes.Vote.TheVariants as Says
use Rattle.sc_mail.specs.declared.bodies.Mail.{Mail}
use Rattle.sc_mail.specs.declared.bodies.MailBody.TheVariants.{TxVote, TxWatched}
use Rattle.sc_group_table.specs.machine.MachineDefinitions.{Group, frozen_of}
use Rattle.sc_node_table.specs.Replica.{ReplicaState, Place}
use Rattle.sc_node_table.specs.Mails.{sent_all}
use Rattle.sc_node_table.specs.Questions.{asked_all}
use Rattle.sc_node_table.specs.Acts.{with_act}

-- how many ticks a coordinator waits before it gives up
abbrev pub patience : ℕ
patience = 8

-- the count with one tick more, which stays at 2^32 - 1
abbrev pub one_tick_more : ℕ → ℕ
one_tick_more waits = if waits == 2 ^ 32 - 1 then waits else waits + 1

-- the replica after it has queued to give the transaction up, where it has waited long enough
abbrev pub impatient : Draw → ReplicaState → ReplicaState
impatient tx r = if nat_le patience r.waits then with_act (GiveUp tx) r else r

-- the replica after one more tick of waiting, where its group is the coordinator of a transaction
abbrev pub waited_in : Lock → ReplicaState → ReplicaState
waited_in Free r = r
waited_in (Coordinating tx body order heard) r = impatient tx (record r { waits = one_tick_more r.waits })
waited_in (Promised tx offer) r = r
waited_in (Watching tx watch) r = r

-- the reminders by a group's lock: a coordinator asks each member of the group that is asked; a participant and a watcher send their Yes to each member of the coordinator
abbrev pub reminders : Lock → ℕ → Group → List Mail → List Mail
reminders Free me group mails = mails
reminders (Coordinating tx body order heard) me group mails = asked_all me group.core tx body heard mails
reminders (Promised tx offer) me group mails = sent_all me offer.members (TxVote tx offer.coord offer.part (Says.Yes (frozen_of group))) mails
reminders (Watching tx watch) me group mails = sent_all me watch.members (TxWatched tx watch.coord watch.part Cast.Yes) mails

-- the replica has waited one more tick, and sends its reminders
unfoldable pub reminded : Place → Place
reminded (r, mails) = (waited_in r.group.core.lock r, reminders r.group.core.lock r.me r.group mails)
