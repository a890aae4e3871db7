pub mod ideal
pub mod commands
pub mod paxos
