-- How many names of groups a calm journal has, and how often its clients are sent on.
use Rattle.sc_live_answers.proofs.LinesProofs.RedirectBounds.{clients_near}
use Rattle.sc_scenario.proofs.ScenarioProofs.Lemmas.{valid_scenarios_are_bounded}
use Rattle.sc_live_answers.proofs.RequestsProofs.RequestLaws.{lawful_replicas_are_named_once}
use Rattle.sc_live_journals.proofs.ChartsProofs.ChartLemmas.{led_stand_once}
use Rattle.sc_live_answers.proofs.QuietProofs.QuietPrefixLaws.{prefixes_are_found}
use Rattle.sc_live_answers.proofs.LinesProofs.SettingLaws.{quiet_journals_have_frames}
use Rattle.sc_live_answers.proofs.AnswersProofs.CalmRowLaws.{chart_hints_rise}
use Rattle.sc_live_plain.proofs.PlainLemmas.{quiet_journals_ask}
use Rattle.sc_live_answers.proofs.QuietProofs.QuietRanges.{quiet_cuts as quiet_groups_have_cuts}
use Rattle.sc_live_answers.proofs.QuietProofs.GroupRing.{standing_round as standing_groups_are_round}
use Rattle.sc_live_answers.proofs.LinesProofs.SettingLinks.{settings_linked as quiet_settings_are_linked}
use Rattle.sc_live_answers.proofs.RequestsProofs.RequestLineStarts.{know_one as quiet_journals_know_one}
use Rattle.sc_live_answers.specs.AnswerDefinitions.{ClientsAreNear, NamesStayFew}
use Rattle.sc_live_answers.proofs.ReplicasProofs.NameBounds.{names_stay}

-- A client that has not started is sent on no more often than there are names of groups.
pub clients_are_near : ClientsAreNear
clients_are_near = clients_near valid_scenarios_are_bounded lawful_replicas_are_named_once led_stand_once prefixes_are_found quiet_journals_have_frames chart_hints_rise quiet_journals_ask quiet_groups_have_cuts standing_groups_are_round quiet_settings_are_linked quiet_journals_know_one

-- There are no more names of groups than groups of the scenario and orders, in each quiet prefix.
pub names_stay_few : NamesStayFew
names_stay_few = names_stay valid_scenarios_are_bounded led_stand_once prefixes_are_found
