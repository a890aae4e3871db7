-- All that holds while an order is under way since a quiet prefix of a calm journal.
use Rattle.sc_live_answers.proofs.VotesProofs.EntriesInFlight.{flights_are_entries as flights_are_entries_by}
use Rattle.sc_live_answers.proofs.OrdersProofs.OrderFactLaws.{replicas_are_recorded, records_are_true, mail_comes_unsettled, asked_groups_stood, true_orders_go_on, settled_orders_go_on, coordinators_are_settled, hinted_orders_go_on, entries_are_true, true_orders_begin, settled_orders_begin}
use Rattle.sc_live_journals.proofs.ScenesProofs.SceneLemmas.{quiet_scenes_are_over, fresh_groups_stay, found_orders_step}
use Rattle.sc_law_groups.proofs.WholeProofs.WholeLemmas.{members_stay_rosters}
use Rattle.sc_live_journals.proofs.LogsProofs.GroupLogLemmas.{slots_have_rosters, views_are_replicas}
use Rattle.sc_live_answers.proofs.LedGroupsProofs.LedGroupLaws.{replicas_run_logs}
use Rattle.sc_live_answers.specs.AnswerDefinitions.{FlightsAreEntries, DeliveriesKeepOrdered, OrdersBeginOrdered}
use Rattle.sc_live_answers.proofs.OrdersProofs.OrderInvariantAfterDeliveries.{deliveries_keep}
use Rattle.sc_scenario.proofs.ScenarioProofs.Lemmas.{valid_scenarios_are_bounded}
use Rattle.sc_live_journals.proofs.MailProofs.MailLemmas.{slots_are_left, replicas_last, mail_may_come}
use Rattle.sc_live_answers.proofs.LedMailProofs.GroupMailLaws.{next_rows_are_sent}
use Rattle.sc_live_answers.proofs.BallotsProofs.NewestReplicas.{newest_stay}
use Rattle.sc_live_answers.proofs.QuietProofs.QuietPrefixLaws.{prefixes_are_found, no_mail_for_strangers}
use Rattle.sc_live_answers.proofs.ReplicasProofs.PlayerViews.{views_agree}
use Rattle.sc_live_answers.proofs.LedMailProofs.WellLedLeaders.{well_led_lead_alone}
use Rattle.sc_live_answers.proofs.LedMailProofs.GroupMail.{sent_replicas}
use Rattle.sc_live_answers.proofs.OrdersProofs.OrderRowPremises.{orders_rows_meet, orders_rows_find}
use Rattle.sc_live_answers.proofs.BallotsProofs.HintLaws.{next_rows_rise, orders_keep_rounds}
use Rattle.sc_live_answers.proofs.ChildrenProofs.YoungGroupLaws.{children_were_nowhere, children_are_created, young_groups_stay}
use Rattle.sc_live_answers.proofs.WorkProofs.WaitingWorkLaws.{deliveries_keep_work, orders_begin_work}
use Rattle.sc_live_answers.proofs.WorkProofs.WorkInPrefixes.{stands_alone as work_stands_alone}
use Rattle.sc_live_answers.proofs.AnswersProofs.CalmRowLaws.{order_rows_find_calm, given_orders_find_calm}
use Rattle.sc_live_answers.proofs.ErrandsProofs.QuestionsAtStart.{coordinators_hinted as coordinators_are_hinted, hinted_begin as hinted_orders_begin}
use Rattle.sc_live_answers.proofs.RequestsProofs.RequestLaws.{lawful_replicas_are_named_once}
use Rattle.sc_live_answers.proofs.ErrandsProofs.ErrandReceiverLaws.{takers_are_nodes, order_errands_go_to_nodes}
use Rattle.sc_live_answers.proofs.OrdersProofs.EndingGroupLaws.{ending_groups_go_on, ending_groups_begin}
use Rattle.sc_live_answers.proofs.RestProofs.WaitingActLaws.{none_waits}
use Rattle.sc_live_answers.proofs.ReplicasProofs.NameLaws.{names_stay_few}
use Rattle.sc_live_answers.proofs.OrdersProofs.OrderInvariantAtStart.{orders_begin}
use Rattle.sc_live_answers.proofs.ErrandsProofs.ErrandReceivers.{homeward_actors as node_errands_reach_players}

-- Each command that is in flight at a leader while an order is under way is an entry of it, and leaves at most nine members.
pub flights_are_entries : FlightsAreEntries
flights_are_entries = flights_are_entries_by replicas_are_recorded records_are_true quiet_scenes_are_over members_stay_rosters slots_have_rosters replicas_run_logs views_are_replicas

-- Each delivery while an order is under way keeps all that holds then, and finds what keeps the journal calm.
pub deliveries_keep_ordered : DeliveriesKeepOrdered
deliveries_keep_ordered = deliveries_keep valid_scenarios_are_bounded slots_are_left replicas_run_logs views_are_replicas slots_have_rosters replicas_last next_rows_are_sent newest_stay prefixes_are_found no_mail_for_strangers views_agree well_led_lead_alone sent_replicas orders_rows_meet orders_rows_find next_rows_rise orders_keep_rounds children_were_nowhere children_are_created fresh_groups_stay young_groups_stay mail_comes_unsettled asked_groups_stood true_orders_go_on deliveries_keep_work work_stands_alone order_rows_find_calm settled_orders_go_on coordinators_are_settled hinted_orders_go_on coordinators_are_hinted entries_are_true flights_are_entries mail_may_come lawful_replicas_are_named_once takers_are_nodes order_errands_go_to_nodes ending_groups_go_on none_waits names_stay_few

-- An order given in a quiet prefix which rests begins all that holds while it is under way, and finds what keeps the journal calm.
pub orders_begin_ordered : OrdersBeginOrdered
orders_begin_ordered = orders_begin valid_scenarios_are_bounded slots_are_left replicas_run_logs views_are_replicas slots_have_rosters next_rows_are_sent newest_stay prefixes_are_found no_mail_for_strangers views_agree sent_replicas orders_rows_find fresh_groups_stay young_groups_stay true_orders_begin settled_orders_begin hinted_orders_begin orders_begin_work children_are_created next_rows_rise orders_keep_rounds work_stands_alone given_orders_find_calm order_errands_go_to_nodes node_errands_reach_players ending_groups_begin none_waits names_stay_few found_orders_step
