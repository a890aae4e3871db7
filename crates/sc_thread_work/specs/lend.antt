pub mod Lending
pub mod Offices
pub mod LendDefinitions
