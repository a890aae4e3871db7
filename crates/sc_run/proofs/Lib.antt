mod MadeSteps
mod MadeTexts
mod Plays
mod Readings
mod ReportedOrders
mod Shown
pub mod ConfirmedFiles
mod WithinBudget
