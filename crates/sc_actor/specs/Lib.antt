pub mod Mail
pub mod Replay
pub mod Counted
pub mod System
pub mod Walk
pub mod Steps
pub mod Definitions
