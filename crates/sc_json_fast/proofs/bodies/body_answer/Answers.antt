use Rattle.sc_json_fast.proofs.BodyTexts.{answer_begins}
use Rattle.sc_json_fast.proofs.bodies.body_answer.Goals as goal

pub returns : goal.returns
returns c = answer_begins _ _ _ _ _ c.in_ok-answer.ensures.a c.in_ok-answer.ensures.b c.in_ok-answer.ensures.c c.in_ok-answer.ensures.text
