-- A player that is well as its tables ask it plays well.
pub use Rattle.sc_live_journals.proofs.GroupsProofs.JournalEvents.{plays_of}
