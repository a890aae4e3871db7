pub mod Arcs
pub mod FittingGroups
pub mod LinkEffects
pub mod LinkOutcomes
pub mod LinkEntries
pub mod LinkLogs
pub mod MergeStories
