use Rattle.sc_json_fast.proofs.BodyTexts.{ask_begins}
use Rattle.sc_json_fast.proofs.bodies.body_ask.Goals as goal

pub returns : goal.returns
returns c = ask_begins _ _ _ _ c.in_ok-from_slot.ensures.a c.in_ok-from_slot.ensures.b c.in_ok-from_slot.ensures.text
