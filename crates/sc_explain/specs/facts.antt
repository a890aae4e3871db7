pub mod Effects
pub mod Facts
pub mod Sameness
