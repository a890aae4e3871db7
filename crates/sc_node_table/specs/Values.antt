-- The types of the crates below, under one name: keys and names, rows, commands, mail, and the answers of acceptors and leaders.
pub use Rattle.sc_base.specs.declared.names.Ballot.{Ballot}
pub use Rattle.sc_base.specs.declared.names.Draw.{Draw}
pub use Rattle.sc_base.specs.declared.ops.Noted.{Noted}
pub use Rattle.sc_base.specs.declared.ops.Op.{Op}
pub use Rattle.sc_base.specs.declared.ops.Op.TheVariants.{Get, Put, Del, Add, Cas}
pub use Rattle.sc_base.specs.declared.ops.Reply.{Reply}
pub use Rattle.sc_actor.specs.declared.actors.Actor.{Ghosts}
pub use Rattle.sc_actor.specs.declared.actors.Seat.{Seat}
pub use Rattle.sc_actor.specs.declared.rows.Event.{Event}
pub use Rattle.sc_actor.specs.declared.rows.Event.TheVariants.{Go, Tick, Deliver, Drop, Again, Crash}
pub use Rattle.sc_actor.specs.declared.rows.Input.{Input}
pub use Rattle.sc_actor.specs.declared.rows.Input.TheVariants.{Got}
pub use Rattle.sc_actor.specs.declared.rows.Row.{Row}
pub use Rattle.sc_actor.specs.declared.schedules.Line.{Line}
pub use Rattle.sc_actor.specs.declared.schedules.Line.TheVariants.{Settle, Storm}
pub use Rattle.sc_actor.specs.declared.schedules.Played.{Played}
pub use Rattle.sc_actor.specs.declared.schedules.Played.TheVariants.{Ended, Full, OutOfMemory}
pub use Rattle.sc_words.specs.declared.ideal.Entry.{Entry}
pub use Rattle.sc_words.specs.declared.commands.bodies.Body.{Body}
pub use Rattle.sc_words.specs.declared.commands.bodies.Offer.{Offer}
pub use Rattle.sc_words.specs.declared.commands.bodies.Watch.{Watch}
pub use Rattle.sc_words.specs.declared.commands.commands.Command.{Command}
pub use Rattle.sc_words.specs.declared.commands.commands.Command.TheVariants.{Leave, Join, Split, Call, Noop, Begin, Prepared, RecordVote, GiveUp, Finish, Watched, RecordWatch}
pub use Rattle.sc_words.specs.declared.commands.cores.Base.{Base}
pub use Rattle.sc_words.specs.declared.commands.cores.Core.{Core}
pub use Rattle.sc_words.specs.declared.commands.cores.Lock.{Lock}
pub use Rattle.sc_words.specs.declared.commands.cores.Lock.TheVariants.{Free, Coordinating, Promised, Watching}
pub use Rattle.sc_words.specs.declared.commands.effects.Effect.{Effect}
pub use Rattle.sc_words.specs.declared.commands.effects.Effect.TheVariants.{NoEffect, Changed, Decided, Voted}
pub use Rattle.sc_words.specs.declared.commands.links.Link.{Link}
pub use Rattle.sc_words.specs.declared.commands.links.Route.{Route}
pub use Rattle.sc_words.specs.declared.commands.orders.Order.{Order}
pub use Rattle.sc_words.specs.declared.commands.orders.Order.TheVariants.{Merge, Repart, Migrate}
pub use Rattle.sc_words.specs.declared.commands.orders.OrderLine.{OrderLine}
pub use Rattle.sc_words.specs.declared.commands.orders.OrderRefusal.{OrderRefusal}
pub use Rattle.sc_words.specs.declared.commands.orders.OrderRefusal.TheVariants.{LastMember, TooManyMembers, NotMember, IsMember, BadBoundary}
pub use Rattle.sc_words.specs.declared.commands.orders.OrderResult.{OrderResult}
pub use Rattle.sc_words.specs.declared.commands.orders.OrderResult.TheVariants.{Refused, Done}
pub use Rattle.sc_words.specs.declared.commands.votes.Frozen.{Frozen}
pub use Rattle.sc_words.specs.declared.commands.votes.Gift.{Gift}
pub use Rattle.sc_words.specs.declared.commands.votes.Heard.{Heard}
pub use Rattle.sc_words.specs.declared.commands.votes.No.{No}
pub use Rattle.sc_words.specs.declared.commands.votes.No.TheVariants.{Apart, TooMany}
pub use Rattle.sc_words.specs.declared.commands.votes.Outcome.{Outcome}
pub use Rattle.sc_words.specs.declared.commands.votes.Outcome.TheVariants.{Abort, Merged, Moved, Migrated, Divided}
pub use Rattle.sc_words.specs.declared.commands.votes.Past.{Past}
pub use Rattle.sc_words.specs.declared.commands.votes.Vote.{Vote}
pub use Rattle.sc_words.specs.declared.commands.votes.Vote.TheVariants.{Yes}
pub use Rattle.sc_words.specs.declared.paxos.answers.AcceptAnswer.{AcceptAnswer}
pub use Rattle.sc_words.specs.declared.paxos.answers.Counted.{Counted}
pub use Rattle.sc_words.specs.declared.paxos.answers.Counted.TheVariants.{Chosen, NotYet}
pub use Rattle.sc_words.specs.declared.paxos.answers.Learnt.{Learnt}
pub use Rattle.sc_words.specs.declared.paxos.answers.Must.{Must}
pub use Rattle.sc_words.specs.declared.paxos.answers.Must.TheVariants.{Gap}
pub use Rattle.sc_words.specs.declared.paxos.answers.PrepareAnswer.{PrepareAnswer}
pub use Rattle.sc_words.specs.declared.paxos.flights.Flight.{Flight}
pub use Rattle.sc_words.specs.declared.paxos.reports.Report.{Report}
pub use Rattle.sc_mail.specs.declared.bodies.AnswerBody.{AnswerBody}
pub use Rattle.sc_mail.specs.declared.bodies.AnswerBody.TheVariants.{NotLeader, Value, Stale, NotMine, Gone}
pub use Rattle.sc_mail.specs.declared.bodies.Mail.{Mail}
pub use Rattle.sc_mail.specs.declared.bodies.MailBody.{MailBody}
pub use Rattle.sc_mail.specs.declared.bodies.MailBody.TheVariants.{Told, Accepted, Answer, Request, Prepare, Promise, Accept, Nack, Learn, Ask, Install, TxPrepare, TxVote, TxOutcome, TxElsewhere, TxWatch, TxWatched}
pub use Rattle.sc_mail.specs.declared.roles.Role.{Role}
pub use Rattle.sc_mail.specs.declared.roles.Role.TheVariants.{Node, Client}
