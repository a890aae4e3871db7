mod Runs
mod TransactionRuns
mod PolicyRuns
pub mod Frames
pub mod SamenessLemmas
pub mod MemberRuns
pub mod Readiness
mod Asked
pub mod Lemmas
