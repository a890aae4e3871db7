pub mod ReadLines
pub mod ReadRequests
pub mod ReadScenarios
pub mod ReadingLaws
pub mod ReadingDefinitions
