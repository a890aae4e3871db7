-- The definitions of this part of the crate that others cite, in one module.
pub use Rattle.sc_live_journals.specs.scenes.AnswersAndLateMail.{AnswersReachLeaders, Expects, IsAsking, IsWaiting, AskedKeep, leader_sought}
pub use Rattle.sc_live_journals.specs.scenes.ScenarioBeginnings.{ScenariosBeginStill}
pub use Rattle.sc_live_journals.specs.scenes.VotesAndOrders.{IsOrdered, StaysIn, IsEntry, IsCounting, VotesKeep, OrdersKeep}
pub use Rattle.sc_live_journals.specs.scenes.EntryEffects.{IsSpoken, EntriesFit}
pub use Rattle.sc_live_journals.specs.scenes.ScenePremises.{BesideFinds, FindsOrder, AtAnother, AtLeader, ByAnother, ByLeader, FindsQuiet, FindsReplica, NodeFinds, LeaderFinds, FindsFlight, Late, Leaves, Changed, Opened, Voted, Aborted, Decided, Heard, Ended, IsState, FoundOrdersStep, FoundOrdersKeep, FoundOrdersGoThrough}
pub use Rattle.sc_live_journals.specs.scenes.UntouchedGroups.{IsThere, IsNowhere, IsFresh, FreshGroupsStay, IsGivenInQuiet, AreUntouched, IsDelivered, IsErrandFor, IsErrand, AreThere, after_all, AreDelivered, IsHeard}
pub use Rattle.sc_live_journals.specs.scenes.OrderRows.{IsBeside, Led, Unled, StageAfter, GoesBy, GivesAnOrder, ComesTo, ComesToLeader, KeepsStage, ComesBeside, ComesToNone, IsEventOf, LeadersKeep, AsidesKeep}
pub use Rattle.sc_live_journals.specs.scenes.SceneRowKinds.{Stays, IsEntrysRow, IsUnled, AsidesStay, AsidesAre, IsLeadsRow, LeadersAre, EntriesAre}
pub use Rattle.sc_live_journals.specs.scenes.CreatedReplicas.{MayJoin, StatesKeep}
pub use Rattle.sc_live_journals.specs.scenes.QuietScenes.{GoesToActor, WorksFlyLone, IsWork, QuietScenesAreOver, HasNothing, OrdersBeginInQuiet, OrdersGoThrough}
pub use Rattle.sc_live_journals.specs.scenes.UnrelatedRows.{OthersKeep}
pub use Rattle.sc_live_journals.specs.scenes.JournalScenes.{is_running, left_after, scene_at, work_at, works_of, later, newest_of, lead_of, bond_there, bond_by, errand_taken, taken_errand, errand_in}
pub use Rattle.sc_live_journals.specs.scenes.SceneReceivers.{IsTaking, MayCreate, RowsAreTaken}
pub use Rattle.sc_live_journals.specs.scenes.SceneRows.{LeadsAlone, NewestAreBound, ScenesDescribe, IsOfGroup, IsTablesRow, LeavesOrMakes, NoneRuns, Creates, errands_sent, IsSceneKind, RowsAreOfScenes}
