use Rattle.sc_json_fast.proofs.BodyTexts.{nack_begins}
use Rattle.sc_json_fast.proofs.bodies.body_nack.Goals as goal

pub returns : goal.returns
returns c = nack_begins _ _ _ _ c.in_ok-group.ensures.a c.in_ok-group.ensures.b c.in_ok-group.ensures.text
