pub mod scenario
pub mod report
