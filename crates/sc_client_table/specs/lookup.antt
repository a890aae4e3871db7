pub mod Choice
pub mod Known
pub mod Ways
pub mod LookupDefinitions
