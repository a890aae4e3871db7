pub mod Requests
pub mod Heads
pub mod ReplicaDefinitions
