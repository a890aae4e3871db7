pub mod HistoryProofs
pub mod RingProofs
pub mod LogsProofs
pub mod NamesProofs
