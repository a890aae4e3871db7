pub mod Pieces
pub mod Strings
pub mod PlainCommands
pub mod Lists
