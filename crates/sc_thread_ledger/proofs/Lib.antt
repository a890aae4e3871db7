pub mod Kept
pub mod Open
pub mod MailPlaces
pub mod Spotting
pub mod Entries
pub mod Holding
pub mod Homing
mod OneCopy
mod Places
mod Counted
pub mod LedgerLemmas
