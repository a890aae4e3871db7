pub mod PendingPlaces
pub mod LinesMakeRows
pub mod StepLines
pub mod LawfulRows
pub mod FormedScenarios
