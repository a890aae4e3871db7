-- The lemmas of this crate that others cite, under one name.
pub use Rattle.sc_meaning.proofs.SoundProofs.EntryRows.{entries-push, world-push}
pub use Rattle.sc_meaning.proofs.SoundProofs.Rows.{any_push}
