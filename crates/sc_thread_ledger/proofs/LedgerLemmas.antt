-- The lemmas of this crate that others cite, under one name.
pub use Rattle.sc_thread_ledger.proofs.Kept.{bytes-push, copies-push}
pub use Rattle.sc_thread_ledger.proofs.Open.{pending_is}
pub use Rattle.sc_thread_ledger.proofs.Spotting.{next_place}
pub use Rattle.sc_thread_ledger.proofs.Entries.{and_false}
