-- The lemmas of this crate that others cite.
pub use Rattle.sc_live_answers.proofs.AnswersProofs.AnswerLaws.{orders_may_be_given, calm_lines_end_quiet, quiet_journals_begin, calm_journals_are_short}
pub use Rattle.sc_live_answers.proofs.RequestsProofs.RequestPhaseLaws.{resting_prefixes_are_known, sent_nodes_may_pump, requests_begin_asked, requests_stay_asked, asked_rows_go_on, asked_rows_find_calm, requests_keep_groups, requests_rest_again}
pub use Rattle.sc_live_answers.proofs.LedMailProofs.FollowerMail.{besides_found as besides_are_found}
pub use Rattle.sc_live_answers.proofs.RequestsProofs.RequestInvariantLaws.{requests_begin, requests_stay, requests_find_calm, requests_leave_young}
pub use Rattle.sc_live_answers.proofs.AnswersProofs.BudgetAtBirth.{births_covered as births_are_covered}
pub use Rattle.sc_live_answers.proofs.QuietProofs.QuietRanges.{quiet_cuts as quiet_groups_have_cuts}
pub use Rattle.sc_live_answers.proofs.LedGroupsProofs.GroupEnds.{members_move_one_way}
pub use Rattle.sc_live_answers.proofs.LedMailProofs.MailPremiseLaws.{group_mail_finds, states_stand, journal_mail_finds}
pub use Rattle.sc_live_answers.proofs.LedMailProofs.GroupMailFacts.{next_mail_so as next_mail_is_sent_so}
pub use Rattle.sc_live_answers.proofs.OrdersProofs.OrderRowPremises.{orders_rows_meet, orders_rows_find}
pub use Rattle.sc_live_answers.proofs.RestProofs.FreeLeavers.{leavers_free}
pub use Rattle.sc_live_answers.proofs.RestProofs.PrefixLaws.{journals_begin_resting, orders_leave_resting}
pub use Rattle.sc_live_answers.proofs.OrdersProofs.EndingGroupLaws.{merges_end_at_owner, ending_groups_begin, ending_groups_go_on, one_group_ends, groups_end_in_turn}
pub use Rattle.sc_live_answers.proofs.RequestsProofs.ClientAnswers.{answers_heard as answers_are_heard_calmly, clients_go as clients_go_calmly}
pub use Rattle.sc_live_answers.proofs.ErrandsProofs.QuestionsAtStart.{hinted_begin as hinted_orders_begin, coordinators_hinted as coordinators_are_hinted}
pub use Rattle.sc_live_answers.proofs.ErrandsProofs.ErrandReceivers.{homeward_actors as node_errands_reach_players}
pub use Rattle.sc_live_answers.proofs.ErrandsProofs.ErrandReceiverLaws.{refusals_go_to_nodes, order_errands_go_to_nodes, requests_send_no_errands, takers_are_nodes}
pub use Rattle.sc_live_answers.proofs.AnswersProofs.CalmRowLaws.{chart_hints_rise, stages_ask, order_rows_find_calm, given_orders_find_calm, order_charts_follow}
pub use Rattle.sc_live_answers.proofs.QuietProofs.QuietPrefixLaws.{links_were_members, groups_are_asked_through, free_groups_have_arcs, prefixes_are_found, quiet_prefixes_have_groups, quiet_logs_are_executed, routes_in_prefixes_agree, prefixes_are_known, prefixes_are_reachable, prefixes_are_taken_in, prefixes_are_linked, still_prefixes_are_free, issued_are_begun, prefix_notes_are_begun, prefixes_go_in_turn, entries_create_children, children_are_made, prefix_groups_have_replicas, prefix_members_have_replicas, members_are_home, no_mail_for_strangers, prefixes_stay_in_turn, first_groups_are_reached}
pub use Rattle.sc_live_answers.proofs.LedGroupsProofs.GroupEndOrder.{turns_go_on}
pub use Rattle.sc_live_answers.proofs.LedMailProofs.LeaderMail.{stages_leave_one as stages_leave_one_work, leaders_found as leaders_are_found}
pub use Rattle.sc_live_answers.proofs.RequestsProofs.AskedLeaders.{ask_leaders as clients_ask_leaders}
pub use Rattle.sc_live_answers.proofs.LedMailProofs.WellLedLeaders.{well_led_lead_alone, quiet_leaders_have_nothing}
pub use Rattle.sc_live_answers.proofs.LedGroupsProofs.LedGroupLaws.{groups_begin_standing, ends_are_logged, replicas_run_logs, children_are_begun, led_logs_are_one, groups_are_born_or_not, groups_begin_led, groups_are_led, led_rows_go_on, groups_begin_taught, groups_are_taught}
pub use Rattle.sc_live_answers.proofs.LedMailProofs.MailWithoutReplica.{missed_found as missed_are_found, young_may as young_child_may_be_created}
pub use Rattle.sc_live_answers.proofs.ReplicasProofs.NameLaws.{clients_are_near, names_stay_few}
pub use Rattle.sc_live_answers.proofs.BallotsProofs.NewestReplicas.{newest_stay}
pub use Rattle.sc_live_answers.proofs.OrdersProofs.OrderInvariantLaws.{deliveries_keep_ordered, orders_begin_ordered, flights_are_entries}
pub use Rattle.sc_live_answers.proofs.RestProofs.PrefixRestLaws.{quiet_prefixes_rest, quiet_journals_rest, requests_leave_resting}
pub use Rattle.sc_live_answers.proofs.RequestsProofs.RequestLaws.{lines_leave_replicas_quiet, lines_leave_quiet, lawful_journals_have_one_log, lawful_lines_leave_quiet, answers_are_expected, lines_ask_leaders, request_rows_find_calm, quiet_journals_count_once, lawful_replicas_are_named_once, lawful_quiet_journals_count_once}
pub use Rattle.sc_live_answers.proofs.QuietProofs.WellLedQuietLaws.{quiet_groups_stand, quiet_groups_are_gone, quiet_replicas_rest, quiet_replicas_are_kept}
pub use Rattle.sc_live_answers.proofs.BallotsProofs.HintLaws.{groups_begin_rising, next_rows_rise, orders_keep_rounds, requests_keep_ballots}
pub use Rattle.sc_live_answers.proofs.BallotsProofs.QuietHints.{quiet_hints_rise}
pub use Rattle.sc_live_answers.proofs.RestProofs.RoundsSinceQuiet.{same_keep as same_views_keep_ballot, rounds_seen as rounds_are_seen}
pub use Rattle.sc_live_answers.proofs.QuietProofs.GroupRing.{standing_round as standing_groups_are_round}
pub use Rattle.sc_live_answers.proofs.LedMailProofs.MailReceivers.{homes_are_kept}
pub use Rattle.sc_live_answers.proofs.LedMailProofs.GroupMail.{sent_replicas}
pub use Rattle.sc_live_answers.proofs.LedMailProofs.GroupMailLaws.{groups_begin_sent, next_rows_are_sent, groups_are_born_as_begun}
pub use Rattle.sc_live_answers.proofs.LinesProofs.SettingLaws.{quiet_journals_have_frames, quiet_charts_count}
pub use Rattle.sc_live_answers.proofs.LinesProofs.SettingLinks.{settings_linked as quiet_settings_are_linked}
pub use Rattle.sc_live_answers.proofs.RequestsProofs.RequestLineStarts.{know_one as quiet_journals_know_one, no_mail as quiet_journals_have_no_mail}
pub use Rattle.sc_live_answers.proofs.ErrandsProofs.StrayMail.{stray_mail_finds, mail_is_for_its_node}
pub use Rattle.sc_live_answers.proofs.RequestsProofs.RequestPremises.{requests_taken as requests_are_taken_calmly}
pub use Rattle.sc_live_answers.proofs.OrdersProofs.OrderFactLaws.{replicas_are_recorded, outcomes_are_taken, mail_comes_unsettled, asked_groups_stood, true_orders_go_on, true_orders_begin, votes_are_true, records_are_true, entries_are_true, settled_orders_begin, settled_orders_go_on, coordinators_are_settled, hinted_orders_go_on}
pub use Rattle.sc_live_answers.proofs.ReplicasProofs.PlayerViews.{views_agree}
pub use Rattle.sc_live_answers.proofs.VotesProofs.LeaderVotes.{stages_expect_work, votes_found as votes_are_found}
pub use Rattle.sc_live_answers.proofs.RestProofs.WaitingActLaws.{none_waits}
pub use Rattle.sc_live_answers.proofs.WorkProofs.WorkInPrefixes.{stands_alone as work_stands_alone}
pub use Rattle.sc_live_answers.proofs.WorkProofs.WaitingWorkLaws.{orders_begin_work, deliveries_keep_work}
pub use Rattle.sc_live_answers.proofs.ChildrenProofs.YoungGroupLaws.{young_groups_stay, children_were_nowhere, children_are_created}
