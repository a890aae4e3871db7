pub mod Game
pub mod ListFacts
pub mod Lean
pub mod Complete
pub mod Registers
