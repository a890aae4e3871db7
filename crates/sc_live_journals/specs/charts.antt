pub mod Charts
pub mod GoneDistances
pub mod ChartSequence
pub mod LastQuietPrefixes
pub mod ChartDefinitions
