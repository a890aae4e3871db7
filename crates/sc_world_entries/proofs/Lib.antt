pub mod DecidedProofs
pub mod ScanProofs
