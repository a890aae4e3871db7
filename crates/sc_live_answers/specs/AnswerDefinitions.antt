-- The definitions of this crate that other crates cite, under one name.
pub use Rattle.sc_live_answers.specs.PrepareStarts.{IsAbove, top_by, AreAbove, HasBelow, IsAskedOn}
pub use Rattle.sc_live_answers.specs.GuidedRows.{RowsAreGuided}
pub use Rattle.sc_live_answers.specs.AnsweredRequests.{CalmLinesSettle, CalmJournalsRest, SettledJournalsRest, TimelyJournalsRest, SettledRequestsAreAnswered, charts_of, CalmJournalsAreCharted, CalmJournalsGoOn, CalmRequestsAreAnswered}
pub use Rattle.sc_live_answers.specs.Arcs.{FreeGroupsHaveArcs}
pub use Rattle.sc_live_answers.specs.RequestPhases.{RestingPrefixesAreKnown, SentNodesMayPump, RequestsBeginAsked, RequestsStayAsked, AskedRowsGoOn, AskedRowsFindCalm, RequestsKeepGroups, RequestsRestAgain, IsAskedSince}
pub use Rattle.sc_live_answers.specs.LogChildren.{IsBirth, EntriesCreateChildren}
pub use Rattle.sc_live_answers.specs.QuietBeginnings.{QuietJournalsBegin}
pub use Rattle.sc_live_answers.specs.FollowerMail.{BesidesAreFound, IsHere, IsUnsettled}
pub use Rattle.sc_live_answers.specs.CreatedGroups.{AreCreatedByOrder, IsWorkingRow, Knows, ChildrenAreCreated, AreOfGroups}
pub use Rattle.sc_live_answers.specs.ChildrenUnderOrders.{GroupsAreQuietWhileYoung, ChildrenWereNowhere}
pub use Rattle.sc_live_answers.specs.BudgetAtBirth.{IsFirstChart, BirthsAreCovered}
pub use Rattle.sc_live_answers.specs.QuietRanges.{QuietGroupsHaveCuts, state_of, AreKnown}
pub use Rattle.sc_live_answers.specs.Deeds.{AreDeeds, BeginsSo, Deed, Doer, FlightsBeginSo, HasDone, HasStepped, Rested, Executed, Hearing, IsDeed, Opening, Promising, Voting, closing_doer, doer, doers_of, heard_doer, opened, voted}
pub use Rattle.sc_live_answers.specs.FormerMembers.{IsPassed, IsFated, EndsGone, AreFated}
pub use Rattle.sc_live_answers.specs.MailPremises.{FindsBy, JournalMailFinds, StrayMailFinds, MailIsForItsNode, GroupMailFinds, StatesStand}
pub use Rattle.sc_live_answers.specs.OutcomesInFlight.{EntriesAreTrue, FinishesAreTrue}
pub use Rattle.sc_live_answers.specs.ChartsUnderOrders.{OrderChartsFollow}
pub use Rattle.sc_live_answers.specs.OrderRowPremises.{IsOrdersRow, IsGivenCalmly, MakesYoung, OrdersRowsFind, OrdersRowsMeet, MeetsOrder}
pub use Rattle.sc_live_answers.specs.RestAtBirth.{JournalsBeginResting}
pub use Rattle.sc_live_answers.specs.EndingGroups.{EndingGroupsBegin, EndingGroupsGoOn, OneGroupEnds, GroupsEndInTurn, HasMerged, IsGoingSince, WasGone, HasBegun, NoneGone, OwnerStood}
pub use Rattle.sc_live_answers.specs.GuidedGroups.{IsGuided, WellLedLeadAlone, IsNamedGuide, IsReachedSo, LeadsOrNone, QuietLeadersHaveNothing, AreBoundBy, IsReached, NewestStay}
pub use Rattle.sc_live_answers.specs.ClientAnswers.{AreReached, AllAskLeaders, IsAnswerTo, AnswersAreHeardCalmly, ClientsGoCalmly, AnswersAreExpected, LinesAskLeaders, IsLedAt, AsksLeaders, ClientsAskLeaders, KnowOne}
pub use Rattle.sc_live_answers.specs.HintsInQuiet.{NextRowsRise, GroupsBeginRising, QuietHintsRise}
pub use Rattle.sc_live_answers.specs.ErrandReceivers.{IsNodeOf, GoesToNode, RefusesToNode, RefusalsGoToNodes, NodeErrandsReachPlayers, RequestsSendNoErrands, OrderErrandsGoToNodes}
pub use Rattle.sc_live_answers.specs.CalmJournals.{IsCalmJournal, IsPrefixOf, AreSent, ContinuesBy, IsNamedGroup, PrefixesOfPrefixes}
pub use Rattle.sc_live_answers.specs.OrderUnderWay.{IsUnder, IsYoungAt}
pub use Rattle.sc_live_answers.specs.ChartQuestions.{StagesAsk, AllLeadAlone}
pub use Rattle.sc_live_answers.specs.OrderDeliveries.{IsKnownMail, IsKnownDelivery, OrderRowsFindCalm, CountsEntries}
pub use Rattle.sc_live_answers.specs.ChartHints.{ChartHintsRise}
pub use Rattle.sc_live_answers.specs.OrderPremises.{GivenOrdersFindCalm}
pub use Rattle.sc_live_answers.specs.QuietPrefixGroups.{RoutesInPrefixesAgree, StillPrefixesAreFree, QuietCoursesEnd, PrefixesAreKnown, PrefixesAreReachable, PrefixesAreTakenIn, PrefixesAreLinked, AreAllThere}
pub use Rattle.sc_live_answers.specs.QuietPrefixes.{IsFoundPrefix, PrefixesAreFound, IsQuietPrefix, QuietLogsAreExecuted, IsOfGroup, IsKnownGroup, QuietPrefixesHaveGroups}
pub use Rattle.sc_live_answers.specs.MemberNodes.{MembersAreHome}
pub use Rattle.sc_live_answers.specs.GroupEndOrder.{NoGroupEnds, PrefixesStayInTurn, PrefixesGoInTurn, OnlyOneEnds, EndsOnce, TurnsGoOn}
pub use Rattle.sc_live_answers.specs.MailAtLeaders.{StagesLeaveOneWork, LeadersAreFound}
pub use Rattle.sc_live_answers.specs.LedGroups.{LedLogsAreOne, over_at, ChildrenAreBegun, GroupsBeginStanding, EndsAreLogged, MembersMoveOneWay, HasLeaders}
pub use Rattle.sc_live_answers.specs.LineEnds.{CalmLinesEndQuiet, calm_deliveries_of, AreCharted}
pub use Rattle.sc_live_answers.specs.Links.{AreAllFree, LinksWereMembers, WasMember, WereMembers}
pub use Rattle.sc_live_answers.specs.DeliveredMail.{IsPlainAt, IsNoRequest, NeedsAt, NeedsBesides, MayCountAt, MeetsMail, IsPlain, IsAgreed, IsPumped, NeedsByKind}
pub use Rattle.sc_live_answers.specs.MergedGroups.{MergesEndAtOwner}
pub use Rattle.sc_live_answers.specs.MailWithoutReplica.{IsYoung, MissedAreFound, YoungChildMayBeCreated}
pub use Rattle.sc_live_answers.specs.RedirectBounds.{ClientsAreNear, NamesStayFew, HasFewNames, HasNamesSince}
pub use Rattle.sc_live_answers.specs.NewTransactions.{tx_of, IsUnused, opened_by}
pub use Rattle.sc_live_answers.specs.WaitingActs.{HaveNoneWaiting, NoneWaits}
pub use Rattle.sc_live_answers.specs.NotedRequests.{IssuedAreBegun, PrefixNotesAreBegun}
pub use Rattle.sc_live_answers.specs.OfferedSlots.{AsksBelow, AreAskedBelow, GroupsAreAskedThrough}
pub use Rattle.sc_live_answers.specs.EqualReplicas.{LawfulJournalsHaveOneLog, LawfulLinesLeaveQuiet}
pub use Rattle.sc_live_answers.specs.OrderInvariant.{IsOrderedSince, OrdersBeginOrdered, IsOfJournal, DeliveriesKeepOrdered}
pub use Rattle.sc_live_answers.specs.EntriesInFlight.{FlightsAreEntries}
pub use Rattle.sc_live_answers.specs.Outcomes.{HasOwnKeys, OutcomesAreTaken, IsTakenBy}
pub use Rattle.sc_live_answers.specs.RestAfterOrders.{OrdersLeaveResting}
pub use Rattle.sc_live_answers.specs.RestCriteria.{QuietPrefixesRest, EndsQuietly}
pub use Rattle.sc_live_answers.specs.QuietJournalRest.{RequestsLeaveResting, QuietJournalsRest, RestsBesides}
pub use Rattle.sc_live_answers.specs.QuietLines.{HaveOneLog, AreReplicasQuiet, LinesLeaveReplicasQuiet, LinesLeaveQuiet}
pub use Rattle.sc_live_answers.specs.FirstReplicas.{FirstGroupsAreReached}
pub use Rattle.sc_live_answers.specs.RecordedVotes.{IsRecord, RecordsAreTrue}
pub use Rattle.sc_live_answers.specs.RequestInvariant.{setting_of, RequestsBegin, RequestsStay, RequestsFindCalm, RequestsLeaveYoung, IsKnownPrefix, IsRequested}
pub use Rattle.sc_live_answers.specs.RequestPremises.{CountsAs, RequestsAreTakenCalmly}
pub use Rattle.sc_live_answers.specs.RestingPrefixes.{RestsAt}
pub use Rattle.sc_live_answers.specs.WellLedQuietGroups.{replicas_at, IsQuietGroup, MembersHaveReplicas, QuietReplicasAreKept, IsTakenIn, SawNoMore, QuietGroupsStand, QuietGroupsAreGone, QuietReplicasRest, IsDone}
pub use Rattle.sc_live_answers.specs.SeenBallots.{top_in, IsSeen, AsksSeen, RefusesSeen}
pub use Rattle.sc_live_answers.specs.HintInvariant.{IsRisingOn}
pub use Rattle.sc_live_answers.specs.RoundBounds.{IsBallotSince, RequestsKeepBallots, RoundsAreSeen, IsRoundSince, OrdersKeepRounds, RowsKeepRound, MustLead, HasOneRound, StaysGone, HasMembers, SameViewsKeepBallot}
pub use Rattle.sc_live_answers.specs.GroupRing.{StandingGroupsAreRound, IsOfCut, AreOfCuts}
pub use Rattle.sc_live_answers.specs.RequestRows.{NodesMayPump, AreNear, MayBegin, RequestRowsFindCalm}
pub use Rattle.sc_live_answers.specs.MailContents.{SaysWell, AreSaidWell}
pub use Rattle.sc_live_answers.specs.MailReceivers.{FindsOne, IsStranger, IsHeld, IsAtHome, HomesAreKept}
pub use Rattle.sc_live_answers.specs.GroupMail.{SentReplicas, IsSentStep, NextRowsAreSent, IsQuietWhileYoung, AreBornAsBegun, GroupsAreBornAsBegun, FirstGroupsAreNeverYoung, IsSentThrough, IsSentOn, NextMailIsSentSo, GroupsBeginSent, LedJournalsAreSentSo}
pub use Rattle.sc_live_answers.specs.SettingCharts.{QuietChartsCount, GoneAgree}
pub use Rattle.sc_live_answers.specs.Settings.{QuietJournalsHaveFrames, QuietSettingsAreLinked, frames_after, nodes_replicas, AreAtNodes, AreReachable}
pub use Rattle.sc_live_answers.specs.SettledLeaders.{SettledOrdersBegin, AreSettled, CoordinatorsAreSettled, SettledOrdersGoOn, HasNoRounds, IsNoRound, coords_of}
pub use Rattle.sc_live_answers.specs.ShortJournals.{CalmJournalsAreShort}
pub use Rattle.sc_live_answers.specs.RequestLineStarts.{LawfulReplicasAreNamedOnce, QuietJournalsKnowOne, LawfulQuietJournalsCountOnce, AreNamedOnce, QuietJournalsCountOnce, QuietJournalsHaveNoMail, QuietLeadersAreReached}
pub use Rattle.sc_live_answers.specs.LogStates.{state_at, ReplicasRunLogs, LeaversFree}
pub use Rattle.sc_live_answers.specs.UnknownReceivers.{NoMailForStrangers}
pub use Rattle.sc_live_answers.specs.NodeDeliveries.{TakersAreNodes}
pub use Rattle.sc_live_answers.specs.OrderTasks.{Task, Creates, CreatesBy, SaysWork, IsOff, is_split, IsNoSplit, DoesSplit, DoesOther, DoesBy, SplitsInto, LockSplits, LockOther, IsBy, HasNumber, LockNumber, Does, IsAtWork}
pub use Rattle.sc_live_answers.specs.EntryLearners.{GroupsBeginTaught, GroupsAreTaught}
pub use Rattle.sc_live_answers.specs.SlotLeaders.{GroupsAreLed, slot_leaders_at, GroupsAreBornOrNot, AreFew, LedRowsGoOn, has_executed, first_to, GroupsBeginLed, slot_leader_of}
pub use Rattle.sc_live_answers.specs.GroupReplicas.{AreBorn, IsBornOn, ChildrenAreMade, PrefixMembersHaveReplicas, PrefixGroupsHaveReplicas}
pub use Rattle.sc_live_answers.specs.Tokens.{token_owing, TokensNeverRise, IdleCountsOnce, command_token, flight_tokens, ready_tokens, replica_tokens, body_token, mail_token, player_token, place_tokens, TokensStay}
pub use Rattle.sc_live_answers.specs.AllowedCommands.{ReplicasAreRecorded, IsAllowedBy, LockIsRecorded, sources_of}
pub use Rattle.sc_live_answers.specs.OrderFactsAtStart.{TrueOrdersBegin}
pub use Rattle.sc_live_answers.specs.TrueEntries.{LeadsSince, VotesAreTrue, IsAskedOrCast}
pub use Rattle.sc_live_answers.specs.OrderFactsAfterDeliveries.{ContinuesSince, AskedGroupsStood, TrueOrdersGoOn}
pub use Rattle.sc_live_answers.specs.QuestionReceivers.{CoordinatorsAreHinted, HintedOrdersBegin, IsHinted, HintedOrdersGoOn, IsHintedAt}
pub use Rattle.sc_live_answers.specs.OrderFacts.{AreSeen, IsTrueSince, asked_of}
pub use Rattle.sc_live_answers.specs.UnsettledMail.{MailComesUnsettled, TakesSince}
pub use Rattle.sc_live_answers.specs.PlayerViews.{ViewsAgree}
pub use Rattle.sc_live_answers.specs.LeaderVotes.{IsTrueEntry, IsOrdersAlone, StagesExpectWork, VotesAreFound, WorkExpects}
pub use Rattle.sc_live_answers.specs.WaitingWork.{DeliveriesKeepWork, OrdersBeginWork, WorkStandsAlone, IsGuidedRow, AreAtWork, IsTaskOf}
pub use Rattle.sc_live_answers.specs.YoungGroups.{YoungGroupsStay, IsUnanswered}
pub use Rattle.sc_live_answers.specs.ReportedOrders.{IsTold, IsRefusedIn, IsVotedDown, IsRefusalSent, IsReported, AreOrdersReported, SettledOrdersAreReported, SettledJournalsReport, TimelyJournalsReport, IsGiven, AreReported, HoldsOrder, Waits, Coordinates, IsOrderHeld}
