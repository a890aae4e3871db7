pub mod decided
pub mod scans
