use Rattle.sc_json_fast.proofs.BodyTexts.{accept_begins}
use Rattle.sc_json_fast.proofs.bodies.body_accept.Goals as goal

pub returns : goal.returns
returns c = accept_begins _ _ _ _ _ _ c.in_ok-ballot.ensures.a c.in_ok-ballot.ensures.b c.in_ok-ballot.ensures.c c.in_ok-ballot.ensures.d c.in_ok-ballot.ensures.text
