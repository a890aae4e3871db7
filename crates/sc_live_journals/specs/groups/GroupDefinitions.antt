-- The definitions of this part of the crate that others cite, in one module.
pub use Rattle.sc_live_journals.specs.groups.GroupBeginnings.{BeginsSo, ScenariosBeginLed, ChildrenBeginLed}
pub use Rattle.sc_live_journals.specs.groups.QuietLeaders.{RestsCleared, IsCleared, QuietLeadersRest}
pub use Rattle.sc_live_journals.specs.groups.ReplicaInvariants.{ScenariosAreKeptBorn, ReplicasAreKept, IsKeptPlayer, AreKeptBorn, KeptLeadersRest}
pub use Rattle.sc_live_journals.specs.groups.RowKinds.{IsGroupRow, RowPasses, RowRests, RowTakes, RowMakes, RowLeads, RowElects, IsLedStep}
pub use Rattle.sc_live_journals.specs.groups.WellLedGroups.{Ends, dated_at, IsWellLed, IsLedOn, hint_in, hints_at}
pub use Rattle.sc_live_journals.specs.groups.RequiredLogs.{RestsBy, IsOfLog, IsLogOf, CountsAsMember, IsLogsState, HasRounds, CountsTo}
pub use Rattle.sc_live_journals.specs.groups.PlayerEvents.{IsLedScene, LeadersKeepLed, MailsKeepLed, OthersKeepLed}
pub use Rattle.sc_live_journals.specs.groups.QuietGroups.{QuietGroupsAreLed, IsLedQuietly}
pub use Rattle.sc_live_journals.specs.groups.RisingHints.{PromisersRise}
pub use Rattle.sc_live_journals.specs.groups.WellLedRows.{IsStateFrom, ElectsWell, LeadsWell, IsStage, LeavesWell, RowsKeepLed}
pub use Rattle.sc_live_journals.specs.groups.Slots.{IsSlotKept, FlyFrom, AreRising, WaitFrom, NodesKeepSlots, NodesAreBornSlotted, HasFrom}
pub use Rattle.sc_live_journals.specs.groups.TaughtGroups.{RowsKeepTaught, ScenariosBeginTaught, ChildrenBeginTaught, GroupsAreTaughtThrough, IsTaughtOn, AreTaughtAt}
pub use Rattle.sc_live_journals.specs.groups.WellLedJournals.{EventsGoOn, ScenariosAreWellBorn, AreWellBorn, HasOneLog, IsSentSo, IsRowOf, Delivers, IsWellPlayer, EventsKeepLed, GroupsAreLedThrough, ScenariosAreLedThrough, ChildrenAreLedThrough}
pub use Rattle.sc_live_journals.specs.groups.GreatestBallots.{IsTopKept, NodesKeepTops, NodesAreBornTopped}
