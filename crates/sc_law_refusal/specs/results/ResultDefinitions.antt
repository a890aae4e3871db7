-- Re-exports of the definitions of this part of the crate that others cite.
pub use Rattle.sc_law_refusal.specs.results.Results.{IsOf, IsAtOnce, CarriesOut, IsCommit, DecidesFor, FindsCause, RefusesOrder, EndsOrder, IfReported, ReportAs, said_of_entry, IsGivenBack, ReportsAreDecided}
pub use Rattle.sc_law_refusal.specs.results.ReportedResults.{IsDecided, LeadsNot, FindsWhy, RefusesLine, IsNotTaken, IsDismissed, IsRefusedIn, HasHappened, ReportsWhatHappened}
