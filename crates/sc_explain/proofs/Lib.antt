pub mod FactsProofs
pub mod RowsProofs
pub mod TextsProofs
