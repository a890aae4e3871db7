pub mod Histories
pub mod Reasons
pub mod Kinds
pub mod Turns
pub mod Grammar
pub mod Definitions
