-- The definitions of this crate that other crates cite, under one name.
pub use Rattle.sc_live_plain.specs.RequestPhase.{IsAskingNode, IsAskingClient, IsAsking, AreFarFromLast, RequestsGoOn}
pub use Rattle.sc_live_plain.specs.RequestLines.{NobodyWaits, AreRequests, AreSeated, HaveAllReplies, LinesAreAnswered}
pub use Rattle.sc_live_plain.specs.QuietJournals.{replicas_after, setting_at, AreFramesOf, DoHintsRise, IsQuietJournal, QuietJournalsAsk, hints_left, QuietHintsRise, ways_at}
pub use Rattle.sc_live_plain.specs.QuietFrames.{frame_at_rest, StandsPlain, IsOfNodes, IsKept, view_at_rest, QuietGroupsStandPlain}
pub use Rattle.sc_live_plain.specs.LeaderMail.{Mark, Asks, Votes, Teaches, Other, mark, AreInOrder, IsBelow, View, taught_slots, IsBetween, IsVoting, mark_of, IsLearning}
pub use Rattle.sc_live_plain.specs.LeaderMailInJournals.{replica_at, next_in, voters_in, votes_in, view_at, marks_at, IsGroupAt, marks_for, replicas_of}
pub use Rattle.sc_live_plain.specs.LeaderMailRows.{IsOther, IsTaken, MovesBy, How, IsNew, IsCount, IsElsewhere, Leads, IsIdle, Accepts, Learns, IsOffered, IsCounted, Moves}
pub use Rattle.sc_live_plain.specs.Budget.{requests_of, budget_of, AllowsDeliveries, delivers, IsAtBudget, StartsBeforeDeliveries, AreAnswered}
pub use Rattle.sc_live_plain.specs.CalmBudget.{gives_order, starts, are_parted, calm_budget_of, AllowsCalmly, HasCalmLines, CalmLinesAreSpaced, IsCalmWith, IsCalm, IsCalmAtBudget, RoomyScenariosAreCalm, orders_of}
pub use Rattle.sc_live_plain.specs.CalmClients.{CanBeAsked, IsCalmClient, IsLinkedSetting, BeginsBy, StaysCalm, Knows, IsRingOf}
pub use Rattle.sc_live_plain.specs.KnownGroups.{start_known, FollowedBy, AreRoundRing, start_of, KnowsFirst, ClientsLearnInTurn}
pub use Rattle.sc_live_plain.specs.CalmNodes.{Setting, IsHome, IsSetting, KnowsBetter, IsCalmNode, IsCalmMail, IsAsideBody, ComesInTime, HasGoneTo, IsNearer, IsAsideAnswer, NodesStayCalm}
pub use Rattle.sc_live_plain.specs.Frames.{Frame, IsFrame, frame_of, AreNamedApart}
pub use Rattle.sc_live_plain.specs.PlainLaws.{PlainLinesEndQuiet, PlainJournalsAreLight, MadeScenariosAreAtBudget, PlainRequestsAreAnswered}
pub use Rattle.sc_live_plain.specs.PlainPotential.{begun_ones, direct, reach_of, player_owes, mail_owes}
pub use Rattle.sc_live_steps.specs.calm.CalmDefinitions.{waiting_one}
pub use Rattle.sc_live_plain.specs.PlainClients.{IsBegun, begun_of, IsWaiting, IsResting}
pub use Rattle.sc_live_plain.specs.PlainMail.{Requests, IsPlainCall, IsPlainCommand, IsPlainBody, IsPlainMail, IsWrittenValue, IsPlainAnswer, written_by}
pub use Rattle.sc_live_plain.specs.PlainNodes.{AreTaken, IsPlainLeader, IsPlainFollower, IsPlainVoter, IsPlainReplica, HasOffered, IsPlainAt, IsSettled, IsPlainNode, IsPlainGroup, IsPlainFlight, IsDue, takers, IsLeading}
pub use Rattle.sc_live_plain.specs.LastLine.{EndsAtBudget, LastLinesEndQuiet, LastLinesAreLight, LastLinesAnswer}
