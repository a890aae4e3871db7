pub mod chance
pub mod edges
pub mod lines
