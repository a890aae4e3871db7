pub mod Parts
pub mod Runs
pub mod LogLemmas
pub mod TransactionRuns
pub mod Lemmas
