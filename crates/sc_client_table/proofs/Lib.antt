pub mod LookupProofs
pub mod TableProofs
