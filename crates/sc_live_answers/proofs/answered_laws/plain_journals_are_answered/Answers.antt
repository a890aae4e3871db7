use Rattle.sc_live_answers.proofs.AnswersProofs.ChartedScenarios.{plain_answered}
use Rattle.sc_live_answers.proofs.answered_laws.plain_journals_are_answered.Goals as goal

pub returns : goal.returns
returns c = plain_answered c.plain_lines_end_quiet.ensures c.plain_journals_are_light.ensures c.settled_requests_are_answered.ensures
