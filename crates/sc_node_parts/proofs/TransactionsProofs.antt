pub mod SilentTransactions
