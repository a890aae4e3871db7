pub mod EntriesProofs
pub mod SoundProofs
