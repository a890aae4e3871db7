use Rattle.sc_live_answers.proofs.AnswersProofs.ChartedScenarios.{lines_settle}
use Rattle.sc_live_answers.proofs.AnswersProofs.AnswerLaws.{calm_lines_end_quiet}
use Rattle.sc_live_answers.proofs.answered_laws.calm_lines_settle.Goals as goal

pub returns : goal.returns
returns c = lines_settle calm_lines_end_quiet c.calm_journals_go_on.ensures.charted c.plain_lines_end_quiet.ensures
