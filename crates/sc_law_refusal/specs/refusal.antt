pub mod Causes
pub mod ClientTurns
pub mod RowCauses
pub mod Journals
pub mod NodeCauses
pub mod RefusalDefinitions
