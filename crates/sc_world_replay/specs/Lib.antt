pub mod Actions
pub mod Opens
pub mod Stages
pub mod Moves
pub mod Checks
pub mod Replays
