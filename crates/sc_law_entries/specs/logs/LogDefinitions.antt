-- Re-exports of the definitions of this part of the crate that others cite.
pub use Rattle.sc_law_entries.specs.logs.Allows.{MakesAllowed, AllowsAsItStands, GroupAllows, EndsBy}
pub use Rattle.sc_law_entries.specs.logs.Beside.{IsIssuedIn, IsDecidedBefore, HoldsBeside, HasOneValue, RepliesAreDecided}
pub use Rattle.sc_law_entries.specs.logs.Descent.{Rows, added_by, Descends, IsFound, newborn_by}
pub use Rattle.sc_law_entries.specs.logs.LogExample.{split_sources, lone_bases, journal_split, put_a_call, offers_split, accepts_split, decides_split, asks_child, offers_put, decides_put, ExampleInTurn}
pub use Rattle.sc_law_entries.specs.logs.Findings.{AreFound, StayRecorded, AreItsLogs, IsNewborn, AreOldOrNew, MakeOneMapWithNotes, IsFoundByName, IsDecidedAt}
pub use Rattle.sc_law_entries.specs.logs.InTurn.{DecideInTurn, DecidesInTurn}
pub use Rattle.sc_law_entries.specs.logs.LogLaws.{GroupsAreFound, AllowedStaysAllowed, PrefixesAllow, StatesAllow, GroupsAllowOthers, GroupsAreOldOrNew, EntriesAreLogs, EntriesAreAllowed, EntriesMakeOneMap, HistoryIsDecided, DecidingRowsStay, JournalsInTurnAreSound, RowsDecideForOne, RowsGoOn}
pub use Rattle.sc_law_entries.specs.logs.OneMap.{AllowedEntriesMakeOneMap}
