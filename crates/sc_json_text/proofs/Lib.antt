pub mod PlainProofs
pub mod RowsProofs
