-- What holds while clients ask alone, between two orders of a calm journal.
use Rattle.sc_live_answers.proofs.RequestsProofs.RequestInvariant.{requests_begin as requests_begin_by, requests_stay as requests_stay_by, requests_find, requests_leave_young as requests_leave_young_by}
use Rattle.sc_scenario.proofs.ScenarioProofs.Lemmas.{valid_scenarios_are_bounded}
use Rattle.sc_live_answers.proofs.LinesProofs.SettingLaws.{quiet_journals_have_frames, quiet_charts_count}
use Rattle.sc_live_answers.proofs.AnswersProofs.CalmRowLaws.{chart_hints_rise}
use Rattle.sc_live_plain.proofs.PlainLemmas.{quiet_journals_ask, requests_go_on}
use Rattle.sc_live_answers.proofs.QuietProofs.QuietRanges.{quiet_cuts as quiet_groups_have_cuts}
use Rattle.sc_live_answers.proofs.QuietProofs.GroupRing.{standing_round as standing_groups_are_round}
use Rattle.sc_live_answers.proofs.LinesProofs.SettingLinks.{settings_linked as quiet_settings_are_linked}
use Rattle.sc_live_answers.proofs.ReplicasProofs.PlayerViews.{views_agree}
use Rattle.sc_live_answers.proofs.RequestsProofs.RequestLineStarts.{know_one as quiet_journals_know_one}
use Rattle.sc_live_answers.proofs.RequestsProofs.RequestLaws.{lawful_quiet_journals_count_once, request_rows_find_calm}
use Rattle.sc_live_journals.proofs.MailProofs.MailLemmas.{slots_are_left, replicas_last}
use Rattle.sc_live_answers.specs.AnswerDefinitions.{RequestsBegin, RequestsStay, RequestsFindCalm, RequestsLeaveYoung}

-- Since a quiet prefix that rests clients may ask.
pub requests_begin : RequestsBegin
requests_begin = requests_begin_by valid_scenarios_are_bounded quiet_journals_have_frames chart_hints_rise quiet_journals_ask quiet_groups_have_cuts standing_groups_are_round quiet_settings_are_linked views_agree quiet_charts_count quiet_journals_know_one lawful_quiet_journals_count_once requests_go_on request_rows_find_calm slots_are_left replicas_last

-- Whatever comes in order while clients ask alone, which gives no order, leaves it so.
pub requests_stay : RequestsStay
requests_stay = requests_stay_by valid_scenarios_are_bounded quiet_journals_have_frames chart_hints_rise quiet_journals_ask quiet_groups_have_cuts standing_groups_are_round quiet_settings_are_linked views_agree quiet_charts_count quiet_journals_know_one lawful_quiet_journals_count_once requests_go_on request_rows_find_calm slots_are_left replicas_last

-- While clients ask alone the next event finds what keeps the journal calm, where each replica may pump and no client is sent on more often than the chart allows.
pub requests_find_calm : RequestsFindCalm
requests_find_calm = requests_find valid_scenarios_are_bounded quiet_journals_have_frames chart_hints_rise quiet_journals_ask quiet_groups_have_cuts standing_groups_are_round quiet_settings_are_linked views_agree quiet_charts_count quiet_journals_know_one lawful_quiet_journals_count_once requests_go_on request_rows_find_calm slots_are_left replicas_last

-- While clients ask, no group is sent anything at a first member that has no replica of it yet.
pub requests_leave_young : RequestsLeaveYoung
requests_leave_young = requests_leave_young_by valid_scenarios_are_bounded quiet_journals_have_frames chart_hints_rise quiet_journals_ask quiet_groups_have_cuts standing_groups_are_round quiet_settings_are_linked views_agree quiet_charts_count quiet_journals_know_one lawful_quiet_journals_count_once requests_go_on request_rows_find_calm slots_are_left replicas_last
