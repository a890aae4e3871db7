pub mod RowsFollowDeeds
pub mod CarriedDeeds
pub mod MuteRows
pub mod PrintedReplies
pub mod WorkedDeeds
