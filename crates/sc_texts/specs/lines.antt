pub mod Reasons
pub mod Words
pub mod Lines
pub mod Kinds
pub mod Requests
pub mod Definitions
