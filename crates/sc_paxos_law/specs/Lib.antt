pub mod Chosen
pub mod Decided
pub mod Example
pub mod Lawful
pub mod Laws
pub mod Steps
pub mod PaxosLawDefinitions
