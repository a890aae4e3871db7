pub mod GroupProofs
pub mod WholeProofs
