pub mod Acceptances
pub mod Indexes
pub mod Known
