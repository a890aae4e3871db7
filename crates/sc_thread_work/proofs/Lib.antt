pub mod ShellProofs
pub mod QueueProofs
pub mod LendProofs
