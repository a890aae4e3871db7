pub mod ChanceProofs
pub mod EdgesProofs
pub mod LinesProofs
