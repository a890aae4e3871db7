pub mod Roles
pub mod Weight
pub mod Definitions
