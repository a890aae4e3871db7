pub mod MadeScenarios
pub mod PlainLineEnds
pub mod LastLineEnds
pub mod JournalBytes
pub mod LightJournals
pub mod ExampleBudget
pub mod ExampleQuietJournal
