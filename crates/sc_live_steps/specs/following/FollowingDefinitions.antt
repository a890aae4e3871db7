-- The definitions of this part of the crate that others cite, in one module.
pub use Rattle.sc_live_steps.specs.following.CountedEntries.{IsLed, IsNext, IsOn, IsOff, LeadsPast, led_on, led_off, EntriesLead}
pub use Rattle.sc_live_steps.specs.following.PrepareSlots.{Dated, marks_in, IsLow, AreLow, IsDatedRow, dated_for, from_slot_of, IsNoPrepare, dated_of, AsksLow, IsAskedLow, RowsAskNext, AsksFromNext, SlotsAreKept, PreparesAreKnown, ElectionsAskNext}
pub use Rattle.sc_live_steps.specs.following.ElectingReplicas.{LeadersBegin, MayLeadNext, elected_by, ElectsInto, ElectionsLead, StepsTake}
pub use Rattle.sc_live_steps.specs.following.ExecutedEntries.{AreNext, LeadsBy, FliesOn, IsStill, IsStopped, ExecutionsLead}
pub use Rattle.sc_live_steps.specs.following.MailUnderWay.{Mark, Asks, Votes, Teaches, Installs, Prepares, Promises, next_by, Course, Progress, Sets, members_at, IsKnown, mark_of, IsFit, named_mark, marks_of, IsEven, IsEvenLed, promise_by, reached, pledged, AreFit, IsOpen, IsFollowing, AreAskedFirst, IsVoting, IsPromising, HasPromised, IsInFlight, IsNoAsk}
pub use Rattle.sc_live_steps.specs.following.TableHints.{IsHeir, HintsFollow, HeirsElect, LeadersLeaveLast}
pub use Rattle.sc_live_steps.specs.following.Hints.{SlotLeaders, hint_by, hinted, IsOther, IsHeeding, StaysSo, GoesBy, AreHeeded, LeavesLast, MayLeave, HintsAreKept, NodesHeed, IsHeeded}
pub use Rattle.sc_live_steps.specs.following.LeaderTables.{IsLeadOf, IsAside, DecidesNext, ActsAlone, LeadsInto, AreEntries, voters_of, progress_by, StopsAlone, ActsStopAlone, RowsLead, IsPolled, promised_by, OwnRowsKeep}
pub use Rattle.sc_live_steps.specs.following.Offers.{AreAt, MayOffer, IsBegun, to_bound, OffersBy, PumpsOffer}
pub use Rattle.sc_live_steps.specs.following.FlightOrder.{IsOrderly, AreApart, HasBallot, OrderIsKept}
pub use Rattle.sc_live_steps.specs.following.OwnPrepares.{AreLearntLast, CountsOwn, IsOwnFirst, IsOtherPrepare, IsOwnPrepare, ArePromisedLast, IsHome, CountsNone, OwnIsKept, LeadersCountOwn}
pub use Rattle.sc_live_steps.specs.following.LeaderRows.{IsCount, IsOffer, taught_from, answered, IsRow, IsIdle, Takes, Leads, Elects, reported_of, IsLast, welcome, begun, IsOffered, IdleRowsKeep, TakersKeep, IsElsewhere, IsCounted, IsKept}
pub use Rattle.sc_live_steps.specs.following.PaxosTables.{marks_for, Stays, StepsBy, MayElect, next_ballot, IsInTime, ElectsBy, IsLeader, TablesElect, EntriesReport, TablesFollow, StatesMake}
pub use Rattle.sc_live_steps.specs.following.TaughtMembers.{IsMemberBy, QuietMembersKnow, AreTaught, IsForMember, TaughtIsKept}
