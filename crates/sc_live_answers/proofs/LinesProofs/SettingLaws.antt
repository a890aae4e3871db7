-- The setting that a quiet journal gives to the requests behind it.
use Rattle.sc_live_answers.proofs.LinesProofs.Frames.{quiet_frames}
use Rattle.sc_scenario.proofs.ScenarioProofs.Lemmas.{valid_scenarios_are_bounded}
use Rattle.sc_live_answers.proofs.RequestsProofs.RequestLaws.{lawful_replicas_are_named_once}
use Rattle.sc_live_answers.specs.AnswerDefinitions.{QuietJournalsHaveFrames, QuietChartsCount}
use Rattle.sc_live_answers.proofs.AnswersProofs.SettingCharts.{charts_count}
use Rattle.sc_live_journals.proofs.ChartsProofs.ChartLemmas.{led_stand_once, ends_fall}

-- In a quiet lawful journal whose replicas are at nodes of the scenario, the frames of the replicas that lead are those of the groups that stand.
pub quiet_journals_have_frames : QuietJournalsHaveFrames
quiet_journals_have_frames = quiet_frames valid_scenarios_are_bounded lawful_replicas_are_named_once

-- The chart after requests behind a quiet journal counts as the setting does which that gives, where groups go one after another, and of one that is gone all know where it went.
pub quiet_charts_count : QuietChartsCount
quiet_charts_count = charts_count valid_scenarios_are_bounded lawful_replicas_are_named_once led_stand_once ends_fall
