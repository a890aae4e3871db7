pub mod replica
pub mod transactions
