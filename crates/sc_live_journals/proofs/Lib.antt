pub mod RowsProofs
pub mod MailProofs
pub mod LogsProofs
pub mod GroupsProofs
pub mod ScenesProofs
pub mod ChartsProofs
