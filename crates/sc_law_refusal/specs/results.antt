pub mod Results
pub mod ReportedResults
pub mod ResultDefinitions
