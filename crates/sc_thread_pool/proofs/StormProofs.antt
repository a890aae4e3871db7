pub mod Copies
pub mod StormRows
