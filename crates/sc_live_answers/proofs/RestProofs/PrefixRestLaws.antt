-- That a quiet prefix of a calm journal rests.
use Rattle.sc_live_answers.proofs.RestProofs.RestCriteria.{quiet_prefixes_rest as quiet_prefixes_rest_by}
use Rattle.sc_scenario.proofs.ScenarioProofs.Lemmas.{valid_scenarios_are_bounded}
use Rattle.sc_live_answers.proofs.QuietProofs.QuietPrefixLaws.{prefixes_are_found, quiet_prefixes_have_groups, quiet_logs_are_executed, prefixes_are_known, prefixes_are_reachable, prefixes_are_taken_in, prefixes_are_linked, still_prefixes_are_free, prefix_groups_have_replicas, prefix_members_have_replicas, prefix_notes_are_begun, no_mail_for_strangers}
use Rattle.sc_live_answers.proofs.QuietProofs.WellLedQuietLaws.{quiet_groups_stand, quiet_groups_are_gone, quiet_replicas_rest, quiet_replicas_are_kept}
use Rattle.sc_live_journals.proofs.GroupsProofs.GroupLemmas.{quiet_groups_are_led, nodes_keep_tops, nodes_are_born_topped}
use Rattle.sc_live_answers.proofs.LedMailProofs.GroupMail.{sent_replicas}
use Rattle.sc_live_answers.proofs.BallotsProofs.QuietHints.{quiet_hints_rise}
use Rattle.sc_live_answers.proofs.RestProofs.RoundsSinceQuiet.{rounds_seen as rounds_are_seen}
use Rattle.sc_live_answers.specs.AnswerDefinitions.{QuietPrefixesRest, QuietJournalsRest, RequestsLeaveResting}
use Rattle.sc_live_answers.proofs.QuietProofs.QuietJournalRest.{quiet_journals_rest as quiet_journals_rest_by}
use Rattle.sc_live_answers.proofs.RequestsProofs.RestAfterRequests.{requests_leave_resting as requests_leave_resting_by}
use Rattle.sc_live_answers.proofs.LinesProofs.SettingLaws.{quiet_journals_have_frames}
use Rattle.sc_live_answers.proofs.AnswersProofs.CalmRowLaws.{chart_hints_rise}
use Rattle.sc_live_plain.proofs.PlainLemmas.{quiet_journals_ask}
use Rattle.sc_live_answers.proofs.QuietProofs.QuietRanges.{quiet_cuts as quiet_groups_have_cuts}
use Rattle.sc_live_answers.proofs.QuietProofs.GroupRing.{standing_round as standing_groups_are_round}
use Rattle.sc_live_answers.proofs.LinesProofs.SettingLinks.{settings_linked as quiet_settings_are_linked}
use Rattle.sc_live_answers.proofs.RequestsProofs.RequestLaws.{lawful_lines_leave_quiet}

-- A quiet prefix of a calm journal rests, by what is known of its replicas, clients and notes.
pub quiet_prefixes_rest : QuietPrefixesRest
quiet_prefixes_rest = quiet_prefixes_rest_by valid_scenarios_are_bounded prefixes_are_found quiet_prefixes_have_groups quiet_logs_are_executed prefixes_are_known prefixes_are_reachable prefixes_are_taken_in prefixes_are_linked still_prefixes_are_free quiet_groups_stand quiet_groups_are_gone quiet_replicas_rest quiet_replicas_are_kept quiet_groups_are_led nodes_keep_tops nodes_are_born_topped sent_replicas prefix_groups_have_replicas prefix_members_have_replicas prefix_notes_are_begun no_mail_for_strangers quiet_hints_rise rounds_are_seen

-- So does one whose players are as a quiet journal asks it.
pub quiet_journals_rest : QuietJournalsRest
quiet_journals_rest = quiet_journals_rest_by prefixes_are_found quiet_prefixes_rest

-- A quiet prefix rests, since whose last quiet prefix clients asked alone.
pub requests_leave_resting : RequestsLeaveResting
requests_leave_resting = requests_leave_resting_by valid_scenarios_are_bounded quiet_journals_have_frames chart_hints_rise quiet_journals_ask quiet_groups_have_cuts standing_groups_are_round quiet_settings_are_linked lawful_lines_leave_quiet prefixes_are_found quiet_journals_rest
