pub mod HistoryExample
pub mod HistoryPrefixes
pub mod LogHistories
pub mod Moves
pub mod PlanMoves
pub mod AppliedEntries
pub mod Worlds
pub mod HistoryDefinitions
