-- The definitions of this part of the crate that others cite, in one module.
pub use Rattle.sc_live_steps.specs.orders.Parts.{work_by, works_in, works_flying, works_ready, works, bond_of, errand_by, bond_in, is_cast_yes, errand_for, errands_for, turn_of, is_yes}
pub use Rattle.sc_live_steps.specs.orders.OrderStageRows.{results, IsRow, Changed, Opened, Voted, Aborted, Decided, Heard, Ended, Kind, Rests, PassesOn, AsksOn, Files, Keeps, RestsKeep, QuestionsKeep, FilesKeep, EntriesKeep, OrdersBegin, QuietIsStill, GoesOn, work_for, IsTold, Executes}
pub use Rattle.sc_live_steps.specs.orders.StageSteps.{IsTaken, OfQuestion, OfVote, OfOutcome, LastTakes, OneTakes, TwoTakes, LastFreed, OneFreed, TwoFreed, IsStepOf, ByRest, ByOrder, ByChange, ByDeal, ByPassing, ByAsking, ByTaking, ByVote, ByNo, ByHearing, ByDeciding, ByEnd, closed, BeginsDeal, TakesOutcome, IsFreed, filed_there, Hears, Votes, Comes, StepsBy, Aborts, Step, Stays, Passes, AsksAgain, RowsStep, Begins, BeginsBy}
pub use Rattle.sc_live_steps.specs.orders.Scenes.{Work, Unbound, Turn, is_watch, Errand, Question, Elsewhere, Asking, Here, Scene, First, Lone, Next, Opens, Answers, Records, GivesUp, Bound, Ends, Bond, Reply, IsOnly, Result, IsNone, free, Changes, AreApart}
pub use Rattle.sc_live_steps.specs.orders.Stages.{Stage, Asks, SentOn, IsAt, Closes, ClosesBoth, Deal, Filed, Leg, Mailed, Ordered, Party, Recorded, Replied, Still, Weighs, closing, heard, heard_lead, IsVote, IsOrder, leads_of, parties_of, asked_one, bound_by, coordinator, party_of, IsUnderWay, IsSound, IsQuiet}
pub use Rattle.sc_live_steps.specs.orders.OrderTables.{Works, IsUnbound, MayFile, TablesFile, TablesPass, TablesAskOn, PumpsKeepWork}
pub use Rattle.sc_live_steps.specs.orders.Entries.{EntryLeaves, IsBegun, Leaves, OrdersLeave, VotesLeave, RecordsLeave, WatchRecordsLeave, EndsLeave}
pub use Rattle.sc_live_steps.specs.orders.LoneEntries.{IsIdle, FliesLone, TablesOrder, RunsAlone, IsLone, Decides, VotesCountAlone, Rested, TablesRest, PromisesKeepWork, EntriesRunAlone}
