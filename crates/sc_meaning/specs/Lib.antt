pub mod entries
pub mod sound
