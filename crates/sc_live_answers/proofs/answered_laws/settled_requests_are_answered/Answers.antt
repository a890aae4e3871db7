use Rattle.sc_live_answers.proofs.AnswersProofs.ChartedScenarios.{settled_answered}
use Rattle.sc_live_answers.proofs.answered_laws.settled_requests_are_answered.Goals as goal

pub returns : goal.returns
returns c = settled_answered c.valid_scenarios_are_bounded.ensures c.valid_journals_are_sound.ensures c.calm_journals_go_on.ensures.settled
