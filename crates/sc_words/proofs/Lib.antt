pub mod IdealProofs
pub mod CommandsProofs
pub mod PaxosProofs
