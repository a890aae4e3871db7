pub mod GivenUpCommands
pub mod GivenUpRows
pub mod GivenUpNodes
pub mod DecidedCommands
pub mod GivenUpJournals
pub mod LateVotes
