pub mod turn
pub mod exchange
