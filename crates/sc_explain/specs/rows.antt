pub mod Counts
pub mod Explained
pub mod Said
