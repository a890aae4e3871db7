pub mod row
pub mod file
