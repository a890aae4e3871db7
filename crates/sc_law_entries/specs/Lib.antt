pub mod history
pub mod ring
pub mod logs
pub mod names
