pub mod Json
pub mod Topics
