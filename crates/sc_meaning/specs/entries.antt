pub mod Births
pub mod Decisions
pub mod Effective
pub mod Laws
pub mod Parts
pub mod Rings
pub mod Worlds
pub mod EntryDefinitions
