pub mod AppendedMail
pub mod Requests
pub mod Places
pub mod SlotMaps
