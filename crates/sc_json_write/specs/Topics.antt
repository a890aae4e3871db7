-- The topics of mails and of commands: one function writes the mails of one topic.
use Rattle.std.specs.Prelude.{Bool, true, false}
use Rattle.sc_words.specs.declared.commands.commands.Command.{Command}
use Rattle.sc_words.specs.declared.commands.commands.Command.TheVariants as TheCommand
use Rattle.sc_mail.specs.declared.bodies.MailBody.{MailBody}
use Rattle.sc_mail.specs.declared.bodies.MailBody.TheVariants as TheMailBody

-- A topic of mails, by which they are shared out among the functions that write them.
pub data Topic : Type 0 where
  -- Requests, answers to them, and results of orders.
  Asked : Topic
  -- Prepare, promise and refusal of a ballot.
  Promised : Topic
  -- Values of slots: accept, accepted and learn.
  Valued : Topic
  -- What a member lacks: it asks for it, or is sent a state.
  Lacked : Topic
  -- Questions and votes of transactions.
  Voted : Topic
  -- Outcomes of transactions, and what watchers are asked and answer.
  Decided : Topic

-- The topic of a mail.
abbrev pub topic : MailBody → Topic
topic (TheMailBody.Request group client seq op) = Asked
topic (TheMailBody.Answer group seq answer) = Asked
topic (TheMailBody.Prepare group ballot from_slot) = Promised
topic (TheMailBody.Promise group ballot reports) = Promised
topic (TheMailBody.Accept group ballot slot command) = Valued
topic (TheMailBody.Accepted group ballot slot) = Valued
topic (TheMailBody.Nack group promised) = Promised
topic (TheMailBody.Learn group slot command) = Valued
topic (TheMailBody.Ask group from_slot) = Lacked
topic (TheMailBody.Install group slot base sets) = Lacked
topic (TheMailBody.TxPrepare tx offer) = Voted
topic (TheMailBody.TxVote tx coord part vote) = Voted
topic (TheMailBody.TxOutcome tx part outcome) = Decided
topic (TheMailBody.TxElsewhere tx coord hint) = Voted
topic (TheMailBody.TxWatch tx watch) = Decided
topic (TheMailBody.TxWatched tx coord part vote) = Decided
topic (TheMailBody.Told order result) = Asked

-- Whether a command is one of a participant or watcher, or records a vote or a watch.
abbrev pub is_vote : Command → Bool
is_vote TheCommand.Noop = false
is_vote (TheCommand.Call client seq op) = false
is_vote (TheCommand.Join node order) = false
is_vote (TheCommand.Leave node order) = false
is_vote (TheCommand.Split at child order) = false
is_vote (TheCommand.Begin tx body order) = false
is_vote (TheCommand.Prepared tx offer) = true
is_vote (TheCommand.RecordVote tx vote by) = true
is_vote (TheCommand.GiveUp tx) = false
is_vote (TheCommand.Finish tx outcome) = false
is_vote (TheCommand.Watched tx watch) = true
is_vote (TheCommand.RecordWatch tx vote by) = true
