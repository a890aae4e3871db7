pub mod Births
pub mod Memory
