pub mod Deeds
pub mod Carriers
pub mod CarriedRows
pub mod HeldReplies
pub mod DeedLaws
pub mod DeedDefinitions
