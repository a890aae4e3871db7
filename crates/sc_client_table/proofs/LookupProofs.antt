pub mod ChoiceLemmas
pub mod KnownLemmas
