-- The definitions of this part of the crate that others cite, in one module.
pub use Rattle.sc_live_steps.specs.calm.Births.{BornReplicasOwe, MadeReplicasOwe}
pub use Rattle.sc_live_steps.specs.calm.ChartedPotential.{players, Chart, run_owes, MayFollow, SeeksNoMore, player_owes, ChartsMayChange}
pub use Rattle.sc_live_steps.specs.calm.Clients.{AsksWithin, IsInTurn, unknown, unknown_one, waiting_one, requests_owe, step_owes, ClientsLower, LearnsOneGroup, NotMineTeaches, IsSentOn, GoneSendsOn}
pub use Rattle.sc_live_steps.specs.calm.HarmlessEntries.{AreBounded, IsServedCall, ServesAll, CallVotesLower, IsPaid, LeavesFew, EndsAfter, ExecutionsRaiseNothing, LoneVotesLower, IsServed, ArePaid, IsWatchPaid, MayGoOn, AllPaid, FliesAlone}
pub use Rattle.sc_live_steps.specs.calm.RowPremises.{FindsCalm, KeptCalmIsMeasured, IsCalmFor, MayAskThere, MayGoNow, MayCount, MayBeOrdered, MayTake, StaysIn, IsCalmMailAt, Takes, Learns, Makes, Misses, KeepsCalm, Strays, KeepCalm, TakenMailLowers, IsBarred}
pub use Rattle.sc_live_steps.specs.calm.PotentialLaws.{AreNines, MayPump, Lowers, AnswersLower, Follows, LearnsLower, Points, AsksLower, newcomers, IsUnbound, IsCounting, LeadsOn, StopsAfter, readied_at, AsksAs, PumpsRaiseNothing, LearntEntriesRaiseNothing, CountedEntriesRaiseNothing, ChangesRaiseNothing, OrdersRaiseLittle, LeadersMayLeave, said_place, IsChange, ExecutesFreely, DecidesFreely, CountsLower, MovesLower, OldLearnsLower, VotesLower}
pub use Rattle.sc_live_steps.specs.calm.LedReplicas.{StaysBehind, LowersLed, led_owes, EndsLeaveNone, LearnsLed, LedLearnsLower, IsLedMail, LedPartiesLower}
pub use Rattle.sc_live_steps.specs.calm.NodePotential.{IsDelivered, group_owes, after_mail, MayMiss, node_owes, turn_owes, IsTaken, NodesOweAsReplicas, NodesLower, NodesRaiseLittle}
pub use Rattle.sc_live_steps.specs.calm.CalmPotential.{Ways, answer_owes, place_owes, idle_owes, asked_owes, elsewhere_owes, body_owes, mail_owes, command_owes, prepare_owes, watch_owes, flights_owe, offered_owes, election, replica_owes, ready_owes}
pub use Rattle.sc_live_steps.specs.calm.PartyPotential.{StandsOnce, IsCalmOrder, Elsewhere, groups_owe, idle_with, party_owes, party_turn_owes, IsCalmMail, PartiesLower, PartiesRaiseLittle}
pub use Rattle.sc_live_steps.specs.calm.QuietPlayers.{View, StandsQuiet, IsAnswered, IsAtRest, IsUpToDate, IsQuiet, IsNewest, IsBelow, MayVote, HasReplica, IsLinked, RisesAt, IsGoneQuiet, LeadsAtRest, ReplicasBeginAtRest, FirstMembersLead}
pub use Rattle.sc_live_steps.specs.calm.ClientReach.{LearnsOf, LeavesFor, MayHear, HearsCalmly, sent_on, client_owes, search_owes, Reach, client_turn_owes, IsUnbegun, ClientsPay}
pub use Rattle.sc_live_steps.specs.calm.RestingJournals.{IsResting, RestsCalm, RestingOwesLittle, births_owe, birth_owes, KeptCalmEndsQuiet, RestCalm}
pub use Rattle.sc_live_steps.specs.calm.UntakenMail.{PartyLowers, IsMadeBehind, StrangersLower}
pub use Rattle.sc_live_steps.specs.calm.Totals.{Rows, leads, is_leading, is_led, led_elsewhere, group_idles, players_owe, node_part, TotalsChangeAsParties}
