pub mod Reports
pub mod LoggedReplicas
pub mod ReportedRows
pub mod ReportedSteps
pub mod ReportedNodes
pub mod ReportedJournals
