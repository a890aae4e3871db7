pub mod KeptLendRule
pub mod Longer
