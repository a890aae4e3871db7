pub mod Replaying
pub mod Taking
