pub mod Causes
pub mod Commands
pub mod Errors
pub mod Inputs
pub mod Subcommands
