pub mod Itself
pub mod Lines
pub mod Rings
pub mod PlainFacts
