pub mod queue
pub mod refusal
pub mod patience
pub mod results
