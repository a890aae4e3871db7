pub mod Pending
pub mod Kept
pub mod Homes
pub mod PostErrors
pub mod Spots
pub mod Queues
pub mod LedgerDefinitions
