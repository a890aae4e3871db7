-- A quiet prefix of a calm journal rests, since whose last quiet prefix clients asked alone.
use Rattle.std.proofs.Common.{◌++◌}
use Rattle.sc_live_orderly.proofs.OrderlyLemmas.{in_time_tidy, quiet-empty}
use Rattle.sc_scenario.specs.scenario.Definitions.{ValidScenariosAreBounded}
use Rattle.sc_meaning.specs.sound.SoundDefinitions.{births, as_nodes}
use Rattle.sc_live_steps.specs.calm.CalmDefinitions.{players}
use Rattle.sc_live_journals.specs.charts.ChartDefinitions.{chart_at}
use Rattle.sc_live_plain.specs.PlainDefinitions.{QuietJournalsAsk}
use Rattle.sc_live_answers.specs.AnswerDefinitions.{LawfulLinesLeaveQuiet, QuietGroupsHaveCuts, StandingGroupsAreRound, frames_after, QuietJournalsHaveFrames, QuietSettingsAreLinked, PrefixesAreFound, ChartHintsRise, QuietJournalsRest, RequestsLeaveResting}
use Rattle.sc_live_answers.proofs.RequestsProofs.RequestInvariant.{prefix_timely}
use Rattle.sc_live_answers.proofs.LinesProofs.Setting as quiet_of

pub requests_leave_resting : ValidScenariosAreBounded → QuietJournalsHaveFrames → ChartHintsRise → QuietJournalsAsk → QuietGroupsHaveCuts → StandingGroupsAreRound → QuietSettingsAreLinked → LawfulLinesLeaveQuiet → PrefixesAreFound → QuietJournalsRest → RequestsLeaveResting
requests_leave_resting all_bounded frames_law rise_law ask_law cuts_law round_law linked_law leave_law found_law rest_law words scenario first others far sent journal quiet after groups rests known asked q besides =
    let s = players words (births as_nodes scenario) in
    let whole = quiet ++ after in
    let left =
    leave_law words scenario first others quiet after (frames_after scenario quiet) (chart_at far sent s quiet).ways q.calm.valid groups rests.fact
    (quiet_of.frames all_bounded frames_law rise_law ask_law cuts_law round_law linked_law words scenario first others far sent journal quiet q.calm groups rests known)
    (quiet_of.rise all_bounded frames_law rise_law ask_law cuts_law round_law linked_law words scenario first others far sent journal quiet q.calm groups rests known)
    (quiet_of.linked all_bounded frames_law rise_law ask_law cuts_law round_law linked_law words scenario first others far sent journal quiet q.calm groups rests known)
    (quiet_of.seated all_bounded frames_law rise_law ask_law cuts_law round_law linked_law words scenario first others far sent journal quiet q.calm groups rests known)
    asked.requests (λ who born. quiet-empty s whole who (in_time_tidy s whole (prefix_timely words scenario journal whole q.calm q.begins)) born q.quiet)
    (found_law words scenario journal whole q.calm q.begins).lawful in
    rest_law words scenario first journal whole q left.0 besides
