-- The definitions of this part of the crate that others cite, in one module.
pub use Rattle.sc_live_journals.specs.mail.SlotAndRoundBounds.{SlotsAreLeft, most_after, IsFewReport, SaysFew, JournalsHaveFew}
pub use Rattle.sc_live_journals.specs.mail.WaitingCommands.{IsPlainlyKept, JournalsKeepIdle, FiledIsWork}
pub use Rattle.sc_live_journals.specs.mail.LastingReplicas.{ReplicasLast, IsLater, HasGrown}
pub use Rattle.sc_live_journals.specs.mail.EndedGroups.{IsOver, EntriesLeaveOver, OverStays}
pub use Rattle.sc_live_journals.specs.mail.MailSenders.{IsPosted, IsPlayers, IsNodesBody, IsClientsBody, MailIsPosted, DesksAreNotBorn, MailMayCome, RowsPostTheirOwn}
pub use Rattle.sc_law_walks.specs.Waiting.{IsFiled, IsAsked}
