pub mod group
pub mod whole
