pub mod Patience
pub mod LateVotes
pub mod PatienceDefinitions
