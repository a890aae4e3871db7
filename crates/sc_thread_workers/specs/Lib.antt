pub mod Crews
pub mod RoundEnds
pub mod Services
pub mod Phases
pub mod Runs
pub mod Holders
