use Rattle.sc_live_answers.proofs.AnswersProofs.ChartedScenarios.{requests_answered}
use Rattle.sc_live_answers.proofs.answered_laws.calm_requests_are_answered.Goals as goal

pub returns : goal.returns
returns c = requests_answered c.valid_scenarios_are_bounded.ensures c.valid_journals_are_sound.ensures c.calm_lines_settle.ensures c.calm_journals_go_on.ensures.rests c.plain_journals_are_answered.ensures
