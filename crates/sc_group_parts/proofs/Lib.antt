pub mod StoreProofs
pub mod TransactionsProofs
