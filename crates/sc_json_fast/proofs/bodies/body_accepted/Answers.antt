use Rattle.sc_json_fast.proofs.BodyTexts.{accepted_begins}
use Rattle.sc_json_fast.proofs.bodies.body_accepted.Goals as goal

pub returns : goal.returns
returns c = accepted_begins _ _ _ _ _ c.in_ok-ballot.ensures.a c.in_ok-ballot.ensures.b c.in_ok-ballot.ensures.c c.in_ok-ballot.ensures.text
