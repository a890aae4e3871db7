pub mod Answers
pub mod Audited
pub mod Budgets
pub mod Played
pub mod Refusals
pub mod ReportedOrders
pub mod Run
pub mod Shown
