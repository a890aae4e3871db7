pub mod Client
pub mod Table
pub mod Turns
pub mod TableDefinitions
