-- That errands and refusals go to nodes of their scenario, and so that nodes alone take mail while an order is under way.
use Rattle.sc_live_answers.proofs.ErrandsProofs.ErrandReceivers.{refusals_home}
use Rattle.sc_live_journals.proofs.MailProofs.MailLemmas.{mail_is_posted, desks_are_not_born}
use Rattle.sc_live_answers.specs.AnswerDefinitions.{RefusalsGoToNodes, OrderErrandsGoToNodes, RequestsSendNoErrands, TakersAreNodes}
use Rattle.sc_live_answers.proofs.ErrandsProofs.OrderErrands.{ordered_home}
use Rattle.sc_live_answers.proofs.QuietProofs.QuietPrefixLaws.{prefixes_are_found, members_are_home}
use Rattle.sc_live_answers.proofs.ErrandsProofs.RequestErrands.{requests_send_no_errands as requests_send_no_errands_by}
use Rattle.sc_scenario.proofs.ScenarioProofs.Lemmas.{valid_scenarios_are_bounded}
use Rattle.sc_live_answers.proofs.LinesProofs.SettingLaws.{quiet_journals_have_frames}
use Rattle.sc_live_answers.proofs.AnswersProofs.CalmRowLaws.{chart_hints_rise}
use Rattle.sc_live_plain.proofs.PlainLemmas.{quiet_journals_ask, nodes_stay_calm}
use Rattle.sc_live_answers.proofs.QuietProofs.QuietRanges.{quiet_cuts as quiet_groups_have_cuts}
use Rattle.sc_live_answers.proofs.QuietProofs.GroupRing.{standing_round as standing_groups_are_round}
use Rattle.sc_live_answers.proofs.LinesProofs.SettingLinks.{settings_linked as quiet_settings_are_linked}
use Rattle.sc_live_answers.proofs.ErrandsProofs.NodeDeliveries.{takers_are_nodes as takers_are_nodes_by}

-- Each refusal goes to a node, in a journal whose rows come in time.
pub refusals_go_to_nodes : RefusalsGoToNodes
refusals_go_to_nodes = refusals_home mail_is_posted

-- One row more after which an order is at a stage sends errands to nodes alone.
pub order_errands_go_to_nodes : OrderErrandsGoToNodes
order_errands_go_to_nodes = ordered_home prefixes_are_found

-- One row more while clients ask alone sends no errand.
pub requests_send_no_errands : RequestsSendNoErrands
requests_send_no_errands = requests_send_no_errands_by valid_scenarios_are_bounded quiet_journals_have_frames chart_hints_rise quiet_journals_ask quiet_groups_have_cuts standing_groups_are_round quiet_settings_are_linked nodes_stay_calm

-- While an order is under way what is delivered is taken by a node.
pub takers_are_nodes : TakersAreNodes
takers_are_nodes = takers_are_nodes_by mail_is_posted desks_are_not_born members_are_home refusals_go_to_nodes
