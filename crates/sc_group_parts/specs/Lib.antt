pub mod store
pub mod transactions
