pub mod PlainRowsProofs
pub mod LeadersProofs
pub mod PlainProofs
pub mod CalmProofs
pub mod BudgetProofs
pub mod Laws
pub mod PlainLemmas
