pub mod ScenarioProofs
pub mod ReportProofs
