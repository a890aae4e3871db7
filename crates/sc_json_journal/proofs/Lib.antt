pub mod RowProofs
pub mod FileProofs
