pub mod ReadingProofs
pub mod DeedProofs
