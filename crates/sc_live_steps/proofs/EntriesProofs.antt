pub mod OrderEntryVotes
pub mod EntryMembers
pub mod CoordinatorQuestions
pub mod EntryLemmas
