pub mod Front
pub mod Moves
pub mod PlaceEquality
pub mod Search
pub mod Standing
pub mod Steps
pub mod Trails
