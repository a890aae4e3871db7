use Rattle.sc_json_fast.proofs.AnswerTexts.{not_leader_begins}
use Rattle.sc_json_fast.proofs.bodies.answer_not_leader.Goals as goal

pub returns : goal.returns
returns c = not_leader_begins _ _ _ c.in_ok-hint.ensures.only c.in_ok-hint.ensures.text
