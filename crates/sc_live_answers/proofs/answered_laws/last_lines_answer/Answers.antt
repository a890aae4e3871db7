use Rattle.sc_live_answers.proofs.AnswersProofs.LastLineAnswers.{last_lines_answer}
use Rattle.sc_live_answers.proofs.answered_laws.last_lines_answer.Goals as goal

pub returns : goal.returns
returns c = last_lines_answer c.valid_scenarios_are_bounded.ensures c.valid_journals_are_sound.ensures c.last_lines_end_quiet.ensures c.calm_journals_go_on.ensures.timely
