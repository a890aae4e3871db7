use Rattle.sc_json_fast.proofs.AnswerTexts.{value_begins}
use Rattle.sc_json_fast.proofs.bodies.answer_value.Goals as goal

pub returns : goal.returns
returns c = value_begins _ _ _ c.in_ok-content.ensures.only c.in_ok-content.ensures.text
