pub mod ExecutionParts
pub mod PumpProofs
pub mod FollowingProofs
pub mod OrderStepsProofs
pub mod CalmStepsProofs
pub mod EntriesProofs
