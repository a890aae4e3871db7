pub mod EntryRows
pub mod Example
pub mod Rows
pub mod WorkedOrder
pub mod WorkedSplit
pub mod SoundLemmas
