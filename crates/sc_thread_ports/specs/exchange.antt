pub mod BareRows
pub mod Addressed
pub mod Answers
pub mod Fetches
pub mod Turns
pub mod Ports
pub mod ExchangeDefinitions
