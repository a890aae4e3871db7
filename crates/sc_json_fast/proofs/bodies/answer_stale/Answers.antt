use Rattle.sc_json_fast.proofs.AnswerTexts.{stale_begins}
use Rattle.sc_json_fast.proofs.bodies.answer_stale.Goals as goal

pub returns : goal.returns
returns c = stale_begins _ _ _ c.in_ok-last.ensures.only c.in_ok-last.ensures.text
