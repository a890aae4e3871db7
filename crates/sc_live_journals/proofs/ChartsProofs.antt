pub mod GoneDistances
pub mod FollowingCharts
pub mod LastQuietPrefixes
pub mod LedNames
pub mod ChartLemmas
