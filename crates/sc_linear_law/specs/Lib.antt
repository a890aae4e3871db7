pub mod Game
pub mod Registers
pub mod Requests
pub mod Orders
pub mod Places
pub mod LinearDefinitions
