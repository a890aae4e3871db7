-- The lemmas of this crate that others cite, under one name.
pub use Rattle.sc_live_plain.proofs.PlainRowsProofs.Lists.{map_among, some_is}
pub use Rattle.sc_live_plain.proofs.PlainRowsProofs.Sums.{shares, sum_mapped, none_together}
pub use Rattle.sc_live_plain.proofs.PlainProofs.SpacedOrders.{calm_spaced as calm_lines_are_spaced, roomy_calm as roomy_scenarios_are_calm, plain_lines_calm, schedule_calm}
pub use Rattle.sc_live_plain.proofs.PlainProofs.PlainSteps.{of_player}
pub use Rattle.sc_live_plain.proofs.PlainProofs.PlainSteps.{node_born, node_number, in_numbers, to_numbers, client_number, value_others, gone_others, started_still, each_numbered, one_of_sum}
pub use Rattle.sc_live_plain.proofs.PlainRowsProofs.MailMarks.{taken_once}
pub use Rattle.sc_live_plain.proofs.PlainProofs.PlainBeginnings.{IsStage, stage, frames_of}
pub use Rattle.sc_live_plain.proofs.PlainRowsProofs.RowViews.{Journal, replica_is, replica_none, replica_others}
pub use Rattle.sc_live_plain.proofs.PlainProofs.AnsweredPlainRequests.{replies_more, first_delivery, many_line}
pub use Rattle.sc_live_plain.proofs.LeadersProofs.IdleLeaders.{leader_idle}
pub use Rattle.sc_live_plain.proofs.PlainRowsProofs.RowViews.{client_is}
pub use Rattle.sc_live_plain.proofs.PlainRowsProofs.SlotCounts.{at_found, out_each, with_each, one_if, one_yes, one_no, with_at, at_nothing, count-cons, count-push, entries_at, find_some, one_if_most, out_here, out_length, out_none, out_other, standing, with_count}
pub use Rattle.sc_live_plain.proofs.LeadersProofs.ExecutedCalls.{IsServed, call_plain, entered_frame}
pub use Rattle.sc_live_plain.proofs.LeadersProofs.PlainEntries.{none_new, recorded_after, counted_call, learnt_call}
pub use Rattle.sc_live_plain.proofs.PlainRowsProofs.RepeatedMail.{mail_of, all_kept, all_reached, among_push, last_among, others_kept}
pub use Rattle.sc_live_plain.proofs.LeadersProofs.LeadingReplicas.{requests_only, offer_taken, in_range, range_yes, IsHeld, range_behind, flights_at, range_before, range_less, range_more, takes, takes_not}
pub use Rattle.sc_live_plain.proofs.LeadersProofs.PlainPumps.{call_is, by_found, by_nothing, call_found, none_found}
pub use Rattle.sc_live_plain.proofs.LeadersProofs.LeaderExecutions.{IsRun}
pub use Rattle.sc_live_plain.proofs.PlainRowsProofs.PlainAcceptAndLearnRows.{as_voter, learn_is, learnt_plain, learnt_follower, learnt_next, accept_is}
pub use Rattle.sc_live_steps.proofs.CalmStepsProofs.CalmStepLemmas.{put_found, put_others}
pub use Rattle.sc_live_plain.proofs.PlainRowsProofs.ReplicaRows.{leading_at, replica_row, DidRefuse, DidQueue, DidCount, following_at, none_stops, Does}
pub use Rattle.sc_live_plain.proofs.PlainRowsProofs.NodeRows.{IsFor, for_node, NodeRow, mail_is, others_after}
pub use Rattle.sc_live_plain.proofs.PlainProofs.GroupCircle.{IsBefore, next_frame, least_leads}
pub use Rattle.sc_live_plain.proofs.PlainProofs.InductionBase.{born_plain, born_found, IsBornOf, born_is, few_clients}
pub use Rattle.sc_live_plain.proofs.BudgetProofs.ExampleBudget.{calm_at_budget}
unfoldable pub use Rattle.sc_live_plain.proofs.BudgetProofs.ExampleBudget.{asks, lines_of, ordered}
pub use Rattle.sc_live_plain.proofs.CalmProofs.QuietFrames.{quiet_stand_plain as quiet_groups_stand_plain}
pub use Rattle.sc_live_plain.proofs.CalmProofs.KnownGroups.{learn_in_turn as clients_learn_in_turn, name_in, id_of, learn_in_turn, gap, near_behind, set_names, started_names, parts_of, among_first, same_of_one, chosen_is, one_chosen}
pub use Rattle.sc_live_plain.proofs.CalmProofs.ChosenGroups.{chosen_among}
pub use Rattle.sc_live_plain.proofs.CalmProofs.CalmRows.{may_pump, serves_all, runs, follows, plain_owes, group_same, may_take}
pub use Rattle.sc_live_plain.proofs.CalmProofs.CalmNodes.{nodes_calm as nodes_stay_calm, stays_by, Turns, step_is, StepsAside, aside_step, turns, aside_is, aside_answer}
pub use Rattle.sc_live_plain.proofs.CalmProofs.CalmClients.{asking, unasked, waiting_home}
pub use Rattle.sc_live_plain.proofs.CalmProofs.AskedGroups.{SaysPlain, CalmSays, calm_says, RingKnown, ring_known, alone, op_same, lacks, new_group}
pub use Rattle.sc_live_plain.proofs.CalmProofs.MoreCalmRequests.{aside_mark, takes_only, go_only}
pub use Rattle.sc_live_plain.proofs.CalmProofs.RequestPhaseClients.{asking_row, nothing_to}
pub use Rattle.sc_live_plain.proofs.PlainProofs.ActingClients.{starts_now}
pub use Rattle.sc_live_plain.proofs.CalmProofs.RequestsAfterQuiet.{quiet_ask}
pub use Rattle.sc_live_plain.proofs.CalmProofs.CalmWaitingRequests.{sought_row}
pub use Rattle.sc_live_plain.proofs.CalmProofs.SoughtRequests.{AreSought, IsSought}
pub use Rattle.sc_live_plain.proofs.CalmProofs.RequestLines.{lines_answered, asked_node}
pub use Rattle.sc_live_plain.proofs.LeadersProofs.Flights.{numbered_get, numbered_past, only_flight, voted_count, closed_set, flight_stands}
pub use Rattle.sc_live_plain.proofs.Laws.{plain_lines_end_quiet, requests_go_on, quiet_journals_ask}
pub use Rattle.sc_live_plain.proofs.BudgetProofs.LastLineEnds.{all_plain, last_lines_quiet}
pub use Rattle.sc_live_plain.proofs.BudgetProofs.PlainLineEnds.{lines_plain}
pub use Rattle.sc_live_plain.proofs.BudgetProofs.LightJournals.{is_node_born}
pub use Rattle.sc_live_plain.proofs.PlainProofs.PlainClientPotential.{unknown_few}
pub use Rattle.sc_live_steps.proofs.FollowingProofs.KeptVotes.{vote_kept}
