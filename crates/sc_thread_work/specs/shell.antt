pub mod Answers
pub mod Shells
