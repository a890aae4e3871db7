pub mod Calls
pub mod Checked
pub mod Decisions
pub mod MigrationLaws
pub mod RepartLaws
pub mod SplitLaws
pub mod TransactionDefinitions
