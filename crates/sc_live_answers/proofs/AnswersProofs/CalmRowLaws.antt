-- That rows of a calm journal find what keeps it calm.
use Rattle.sc_live_answers.proofs.AnswersProofs.ChartHints.{hints_rise}
use Rattle.sc_scenario.proofs.ScenarioProofs.Lemmas.{valid_scenarios_are_bounded}
use Rattle.sc_live_answers.proofs.RequestsProofs.RequestLaws.{lawful_replicas_are_named_once}
use Rattle.sc_live_answers.proofs.ReplicasProofs.PlayerViews.{views_agree}
use Rattle.sc_live_answers.specs.AnswerDefinitions.{ChartHintsRise, StagesAsk, OrderRowsFindCalm, GivenOrdersFindCalm, OrderChartsFollow}
use Rattle.sc_live_answers.proofs.AnswersProofs.ChartQuestions.{stages_ask as stages_ask_by}
use Rattle.sc_live_journals.proofs.ScenesProofs.SceneLemmas.{scenes_tell, fresh_groups_stay, answers_reach_leaders, works_fly_lone}
use Rattle.sc_live_answers.proofs.OrdersProofs.OrderDeliveries.{order_rows_find}
use Rattle.sc_live_answers.proofs.LedMailProofs.MailPremiseLaws.{journal_mail_finds}
use Rattle.sc_live_answers.proofs.ErrandsProofs.StrayMail.{stray_mail_finds, mail_is_for_its_node}
use Rattle.sc_live_journals.proofs.ChartsProofs.ChartLemmas.{led_stand_once, charts_follow}
use Rattle.sc_live_steps.proofs.EntriesProofs.EntryLemmas.{bonds_ask, order_entries_count}
use Rattle.sc_live_answers.proofs.LedMailProofs.LeaderMail.{stages_leave_one as stages_leave_one_work}
use Rattle.sc_live_answers.proofs.LedMailProofs.WellLedLeaders.{well_led_lead_alone}
use Rattle.sc_live_journals.proofs.MailProofs.MailLemmas.{slots_are_left}
use Rattle.sc_live_journals.proofs.GroupsProofs.GroupLemmas.{scenarios_are_kept_born, replicas_are_kept}
use Rattle.sc_live_journals.proofs.LogsProofs.GroupLogLemmas.{slots_have_rosters}
use Rattle.sc_live_answers.proofs.OrdersProofs.OrderPremises.{given_orders_find}
use Rattle.sc_live_steps.proofs.OrderStepsProofs.OrderStepLemmas.{tables_order}
use Rattle.sc_live_answers.proofs.AnswersProofs.ChartSequence.{order_charts_follow as order_charts_follow_by}

-- By the chart of a calm journal hints rise in the last quiet prefix.
pub chart_hints_rise : ChartHintsRise
chart_hints_rise = hints_rise valid_scenarios_are_bounded lawful_replicas_are_named_once views_agree

-- The chart says what the coordinator of a stage asks, and whether as a watcher.
pub stages_ask : StagesAsk
stages_ask = stages_ask_by scenes_tell

-- Each delivery while an order is under way finds what keeps a journal calm, where its mail is known.
pub order_rows_find_calm : OrderRowsFindCalm
order_rows_find_calm = order_rows_find journal_mail_finds stray_mail_finds mail_is_for_its_node led_stand_once fresh_groups_stay stages_ask bonds_ask scenes_tell answers_reach_leaders works_fly_lone order_entries_count stages_leave_one_work well_led_lead_alone slots_are_left scenarios_are_kept_born replicas_are_kept slots_have_rosters views_agree valid_scenarios_are_bounded

-- Each order given in a quiet prefix that rests does too.
pub given_orders_find_calm : GivenOrdersFindCalm
given_orders_find_calm = given_orders_find tables_order views_agree led_stand_once valid_scenarios_are_bounded

-- The chart after a row of an order follows that before it.
pub order_charts_follow : OrderChartsFollow
order_charts_follow = order_charts_follow_by stages_ask charts_follow
