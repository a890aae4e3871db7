pub mod SlotAndRoundBounds
pub mod WaitingCommands
pub mod LastingReplicas
pub mod EndedGroups
pub mod MailSenders
pub mod MailDefinitions
