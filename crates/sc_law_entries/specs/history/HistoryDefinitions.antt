-- Re-exports of the definitions of this part of the crate that others cite.
pub use Rattle.sc_law_entries.specs.history.HistoryExample.{ExampleOfEntries, answers_with, example_log, get_a, get_entry, lone_base, offspring, put_a, put_entry, split_entry, two_requests, ExampleOfMoves, bare_ring, example_moves, lone_holdings, parent}
pub use Rattle.sc_law_entries.specs.history.HistoryPrefixes.{log_in, PrefixesAnswerByHistory, LogsMakeStates}
pub use Rattle.sc_law_entries.specs.history.LogHistories.{IsReplied, LeavesWhole, HoldsNothing, IsNoted, IsDone, LogsMakeHistories}
pub use Rattle.sc_law_entries.specs.history.Moves.{GivenFrom, JoinedTo, RequestOf, TakenUpTo, Unmoved, both_holdings, holding_of, part_before, part_from, with_next, with_previous, MatchesHoldings, Holding, Holdings, with_holding, AreDisjoint, IsReportedOf, DividedAt, HasNotes, entries_by, holdings_after, AreBare, MayMakeAll, history_by, with_request, Move, ServedBy, MovesKeepHistories, MovesMakeHistories, holdings_after_all, MayServe, request_entry, IsNotedIn, IsBetween, MayDivide, CanFollow, CanGive, CanTake}
pub use Rattle.sc_law_entries.specs.history.PlanMoves.{DividesHolding, GivesHolding, PlansAreMoves, TakesHolding}
pub use Rattle.sc_law_entries.specs.history.AppliedEntries.{IsItsOwn, IsParty, MayHear, MayHearWatcher, MaySplit, IsNewChild, MayFinish, EntriesMakeMoves, AppliedEntriesMakeHistory, AllMayBeApplied, MayExecute, MayBeApplied, MayCall, IsUncommitted, HasCut}
pub use Rattle.sc_law_entries.specs.history.Worlds.{HasKnownTable, holdings_in, AllMakeMoves, IsMoveTo, BeginBare, BeginsBare, MovingEntriesMakeHistory, MakesMove, IsQuiet, HistoryMatchesWorld, QuietEntriesMakeHistory, IsAskedCall, LogNotesStay}
