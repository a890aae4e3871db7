pub mod Among
pub mod Decided
pub mod Example
pub mod History
pub mod Law
pub mod Leading
pub mod Lemmas
