pub mod Changed
pub mod Changes
pub mod Executing
pub mod KeptTransactions
pub mod Naming
pub mod FirstEntries
