pub mod ReplicaProofs
pub mod TransactionsProofs
