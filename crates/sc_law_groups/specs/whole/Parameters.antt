-- What the replicas of a group may queue after some rows of a journal, and which mails of transactions are true, by the stories of all logs.
use Rattle.std.specs.Prelude.{List}
use Rattle.sc_node_table.specs.Values.{Command, Noop, Call, Join, Leave, Split, Begin, Prepared, RecordVote, GiveUp, Finish, Watched, RecordWatch, Base, MailBody, Request, Answer, Prepare, Promise, Accept, Accepted, Nack, Learn, Ask, Install, TxPrepare, TxVote, TxOutcome, TxElsewhere, TxWatch, TxWatched, Told}
use Rattle.sc_meaning.specs.sound.SoundDefinitions.{Ahead, entries_at}
use Rattle.sc_scenario.specs.declared.scenario.scenarios.Scenario.{Scenario}
use Rattle.sc_law_entries.specs.ring.RingDefinitions.{Sources, IsVoteCast, IsWatchVoteCast, IsAllowed, Stories, stories_of}
use Rattle.sc_law_entries.specs.logs.LogDefinitions.{IsIssuedIn, Rows}

-- the stories after the entries of all logs of a journal
abbrev pub stories_at : Ahead → List Base → Rows → Stories
stories_at ahead bases rows = stories_of bases (entries_at ahead bases rows)

-- a mail is true where what it lets its receiver queue is allowed: an offer its Prepared, a question to a watcher its Watched, a vote its RecordVote or RecordWatch, an outcome its Finish; any other mail is true
abbrev pub IsHeard : Sources → Stories → MailBody → Type 0
IsHeard sources stories (TxPrepare tx offer) = IsAllowed sources stories offer.part (Prepared tx offer)
IsHeard sources stories (TxVote tx coord part vote) = IsVoteCast stories tx vote
IsHeard sources stories (TxOutcome tx part outcome) = IsAllowed sources stories part (Finish tx outcome)
IsHeard sources stories (TxElsewhere tx coord hint) = Unit {0}
IsHeard sources stories (TxWatch tx watch) = IsAllowed sources stories watch.part (Watched tx watch)
IsHeard sources stories (TxWatched tx coord part vote) = IsWatchVoteCast stories tx vote
IsHeard sources stories (Request group client seq op) = Unit {0}
IsHeard sources stories (Answer group seq answer) = Unit {0}
IsHeard sources stories (Prepare group ballot from_slot) = Unit {0}
IsHeard sources stories (Promise group ballot reports) = Unit {0}
IsHeard sources stories (Accept group ballot slot command) = Unit {0}
IsHeard sources stories (Accepted group ballot slot) = Unit {0}
IsHeard sources stories (Nack group promised) = Unit {0}
IsHeard sources stories (Learn group slot command) = Unit {0}
IsHeard sources stories (Ask group from_slot) = Unit {0}
IsHeard sources stories (Install group slot record_of sets) = Unit {0}
IsHeard sources stories (Told number result) = Unit {0}

-- a call was issued by a client of the scenario in these rows; any other command needs no issue
abbrev pub IsIssuedCall : Scenario → Rows → Command → Type 0
IsIssuedCall scenario rows (Call client seq op) = IsIssuedIn scenario rows client seq op
IsIssuedCall scenario rows Noop = Unit {0}
IsIssuedCall scenario rows (Join node order) = Unit {0}
IsIssuedCall scenario rows (Leave node order) = Unit {0}
IsIssuedCall scenario rows (Split at child order) = Unit {0}
IsIssuedCall scenario rows (Begin tx body order) = Unit {0}
IsIssuedCall scenario rows (Prepared tx offer) = Unit {0}
IsIssuedCall scenario rows (RecordVote tx vote by) = Unit {0}
IsIssuedCall scenario rows (GiveUp tx) = Unit {0}
IsIssuedCall scenario rows (Finish tx outcome) = Unit {0}
IsIssuedCall scenario rows (Watched tx watch) = Unit {0}
IsIssuedCall scenario rows (RecordWatch tx vote by) = Unit {0}

-- a replica of a group may queue a command after these rows where the stories allow it at that group, and a call was issued
abbrev pub MayQueue : Sources → Ahead → Scenario → Rows → Base → Command → Type 0
MayQueue sources ahead scenario rows base command = IsAllowed sources (stories_at ahead scenario.groups rows) base.core.id command × IsIssuedCall scenario rows command

-- a mail is true after these rows
abbrev pub IsHeardAt : Sources → Ahead → Scenario → Rows → MailBody → Type 0
IsHeardAt sources ahead scenario rows body = IsHeard sources (stories_at ahead scenario.groups rows) body
