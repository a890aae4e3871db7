-- All that holds while clients ask alone since a quiet prefix of a calm journal.
use Rattle.sc_live_answers.proofs.RestProofs.KnownRestingPrefixes.{resting_known, sent_nodes_pump}
use Rattle.sc_live_answers.proofs.QuietProofs.QuietPrefixLaws.{prefixes_are_found, routes_in_prefixes_agree, no_mail_for_strangers, still_prefixes_are_free, prefixes_stay_in_turn}
use Rattle.sc_law_groups.proofs.WholeProofs.WholeLemmas.{valid_journals_are_sound, valid_entries_are_logs}
use Rattle.sc_live_answers.specs.AnswerDefinitions.{RestingPrefixesAreKnown, SentNodesMayPump, RequestsBeginAsked, RequestsStayAsked, AskedRowsGoOn, AskedRowsFindCalm, RequestsKeepGroups, RequestsRestAgain}
use Rattle.sc_scenario.proofs.ScenarioProofs.Lemmas.{valid_scenarios_are_bounded}
use Rattle.sc_live_answers.proofs.RequestsProofs.RequestLaws.{lawful_replicas_are_named_once}
use Rattle.sc_live_answers.proofs.LedMailProofs.GroupMail.{sent_replicas}
use Rattle.sc_live_answers.proofs.RequestsProofs.RequestPhases.{begin_asked, stay_asked, rows_asked, asked_find, keep_groups, rest_again}
use Rattle.sc_live_answers.proofs.RequestsProofs.RequestInvariantLaws.{requests_begin, requests_stay, requests_leave_young, requests_find_calm}
use Rattle.sc_live_answers.proofs.BallotsProofs.HintLaws.{requests_keep_ballots, next_rows_rise}
use Rattle.sc_live_journals.proofs.MailProofs.MailLemmas.{slots_are_left, replicas_last}
use Rattle.sc_live_answers.proofs.LedMailProofs.GroupMailLaws.{next_rows_are_sent}
use Rattle.sc_live_answers.proofs.LinesProofs.SettingLaws.{quiet_journals_have_frames}
use Rattle.sc_live_answers.proofs.AnswersProofs.CalmRowLaws.{chart_hints_rise}
use Rattle.sc_live_plain.proofs.PlainLemmas.{quiet_journals_ask}
use Rattle.sc_live_answers.proofs.QuietProofs.QuietRanges.{quiet_cuts as quiet_groups_have_cuts}
use Rattle.sc_live_answers.proofs.QuietProofs.GroupRing.{standing_round as standing_groups_are_round}
use Rattle.sc_live_answers.proofs.LinesProofs.SettingLinks.{settings_linked as quiet_settings_are_linked}
use Rattle.sc_live_answers.proofs.RestProofs.RoundsSinceQuiet.{rounds_seen as rounds_are_seen}
use Rattle.sc_live_answers.proofs.RestProofs.PrefixRestLaws.{requests_leave_resting}

-- A quiet prefix that rests is known as requests need it, where ways may be longer by one than orders were given.
pub resting_prefixes_are_known : RestingPrefixesAreKnown
resting_prefixes_are_known = resting_known prefixes_are_found routes_in_prefixes_agree no_mail_for_strangers valid_journals_are_sound valid_entries_are_logs

-- In a prefix whose groups are well led each replica of each node may pump.
pub sent_nodes_may_pump : SentNodesMayPump
sent_nodes_may_pump = sent_nodes_pump valid_scenarios_are_bounded lawful_replicas_are_named_once prefixes_are_found sent_replicas

-- Since a quiet prefix that rests clients may ask.
pub requests_begin_asked : RequestsBeginAsked
requests_begin_asked = begin_asked resting_prefixes_are_known requests_begin requests_keep_ballots no_mail_for_strangers

-- Whatever comes in order while clients ask alone, which gives no order, leaves it so.
pub requests_stay_asked : RequestsStayAsked
requests_stay_asked = stay_asked valid_scenarios_are_bounded prefixes_are_found slots_are_left requests_stay requests_leave_young next_rows_are_sent next_rows_rise requests_keep_ballots

-- Each row of the journal that gives no order leaves it so.
pub asked_rows_go_on : AskedRowsGoOn
asked_rows_go_on = rows_asked requests_stay_asked

-- Whatever comes next finds what keeps the journal calm, where no client is sent on more often than any.
pub asked_rows_find_calm : AskedRowsFindCalm
asked_rows_find_calm = asked_find sent_nodes_may_pump requests_find_calm

-- While clients ask alone, the groups that have replicas are those that had any in the quiet.
pub requests_keep_groups : RequestsKeepGroups
requests_keep_groups = keep_groups valid_scenarios_are_bounded quiet_journals_have_frames chart_hints_rise quiet_journals_ask quiet_groups_have_cuts standing_groups_are_round quiet_settings_are_linked prefixes_are_found replicas_last

-- Where it is quiet again, and errands went to players, the journal rests again.
pub requests_rest_again : RequestsRestAgain
requests_rest_again = rest_again valid_scenarios_are_bounded quiet_journals_have_frames chart_hints_rise quiet_journals_ask quiet_groups_have_cuts standing_groups_are_round quiet_settings_are_linked prefixes_are_found no_mail_for_strangers still_prefixes_are_free prefixes_stay_in_turn rounds_are_seen requests_leave_resting
