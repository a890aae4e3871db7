pub mod OrderedRows
pub mod Potential
pub mod OrdersInQuiet
pub mod Turns
pub mod OrderlyDefinitions
