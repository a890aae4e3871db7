pub mod GroupLogs
pub mod Nodes
pub mod LogDefinitions
