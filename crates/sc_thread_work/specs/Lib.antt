pub mod shell
pub mod queue
pub mod lend
