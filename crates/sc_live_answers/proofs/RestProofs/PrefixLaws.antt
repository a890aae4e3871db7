-- The prefixes of a calm journal from its births on.
use Rattle.sc_live_answers.proofs.RestProofs.RestAtBirth.{journals_begin}
use Rattle.sc_scenario.proofs.ScenarioProofs.Lemmas.{valid_scenarios_are_bounded}
use Rattle.sc_live_journals.proofs.MailProofs.MailLemmas.{slots_are_left}
use Rattle.sc_live_answers.proofs.LedGroupsProofs.LedGroupLaws.{groups_begin_standing}
use Rattle.sc_live_answers.proofs.RequestsProofs.RequestLaws.{lawful_replicas_are_named_once}
use Rattle.sc_live_answers.proofs.LedMailProofs.GroupMailLaws.{groups_begin_sent, groups_are_born_as_begun}
use Rattle.sc_live_answers.proofs.AnswersProofs.AnswerLaws.{quiet_journals_begin}
use Rattle.sc_live_answers.proofs.QuietProofs.QuietPrefixLaws.{prefixes_are_found, no_mail_for_strangers, first_groups_are_reached}
use Rattle.sc_live_answers.proofs.ReplicasProofs.PlayerViews.{views_agree}
use Rattle.sc_live_answers.proofs.RestProofs.PrefixRestLaws.{quiet_journals_rest, quiet_prefixes_rest}
use Rattle.sc_live_answers.proofs.BallotsProofs.HintLaws.{groups_begin_rising, orders_keep_rounds}
use Rattle.sc_live_answers.specs.AnswerDefinitions.{JournalsBeginResting, OrdersLeaveResting}
use Rattle.sc_live_answers.proofs.RestProofs.RestAfterOrders.{orders_leave}
use Rattle.sc_live_journals.proofs.GroupsProofs.GroupLemmas.{scenarios_are_kept_born}
use Rattle.sc_live_journals.proofs.LogsProofs.GroupLogLemmas.{slots_have_rosters}
use Rattle.sc_live_journals.proofs.ScenesProofs.SceneLemmas.{quiet_scenes_are_over}
use Rattle.sc_live_answers.proofs.LedMailProofs.WellLedLeaders.{quiet_leaders_have_nothing}
use Rattle.sc_live_answers.proofs.RestProofs.RoundsSinceQuiet.{rounds_seen as rounds_are_seen}
use Rattle.sc_live_answers.proofs.ErrandsProofs.ErrandReceivers.{homeward_actors as node_errands_reach_players}
use Rattle.sc_live_answers.proofs.OrdersProofs.EndingGroupLaws.{groups_end_in_turn}
use Rattle.sc_live_answers.proofs.RestProofs.WaitingActLaws.{none_waits}

-- Before its first row a calm journal rests.
pub journals_begin_resting : JournalsBeginResting
journals_begin_resting = journals_begin valid_scenarios_are_bounded slots_are_left groups_begin_standing lawful_replicas_are_named_once groups_begin_sent groups_are_born_as_begun quiet_journals_begin prefixes_are_found views_agree quiet_journals_rest groups_begin_rising

-- Once an order is over and the journal is quiet, it rests again.
pub orders_leave_resting : OrdersLeaveResting
orders_leave_resting = orders_leave valid_scenarios_are_bounded slots_are_left scenarios_are_kept_born slots_have_rosters quiet_scenes_are_over quiet_leaders_have_nothing orders_keep_rounds rounds_are_seen prefixes_are_found no_mail_for_strangers quiet_prefixes_rest node_errands_reach_players groups_end_in_turn none_waits first_groups_are_reached
