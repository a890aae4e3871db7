pub mod Plays
pub mod ReplayErrors
pub mod Summary
pub mod Worlds
