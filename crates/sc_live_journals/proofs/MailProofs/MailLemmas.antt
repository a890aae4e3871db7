-- The lemmas of this part of the crate that others cite, under one name.
pub use Rattle.sc_live_journals.proofs.MailProofs.Clients.{IsRequestOf, clients_ask}
pub use Rattle.sc_live_journals.proofs.MailProofs.BoundsInJournals.{journals_few as journals_have_few, slots_left as slots_are_left, journals_idle as journals_keep_idle, journals_idle, slots_left}
pub use Rattle.sc_live_journals.proofs.MailProofs.BoundsInLists.{reports_more}
pub use Rattle.sc_live_journals.proofs.MailProofs.BoundsInRows.{entered_up, installed_up}
pub use Rattle.sc_live_journals.proofs.MailProofs.LastingReplicas.{replicas_last}
pub use Rattle.sc_live_journals.proofs.MailProofs.EndedGroups.{entries_over as entries_leave_over}
pub use Rattle.sc_live_journals.proofs.MailProofs.MailSenders.{mail_posted as mail_is_posted, mail_comes as mail_may_come, desks_apart as desks_are_not_born, mail_comes, clients_stay, mail_posted, desks_apart}
pub use Rattle.sc_live_journals.proofs.MailProofs.PartWalks.{takes_mail, orders, looks_up, Hears, Sends, AreSaid}
pub use Rattle.sc_live_journals.proofs.MailProofs.Walks.{PartWalk, Part, part, next_in, IsReported, named_in, entered_part, jumped_part}
