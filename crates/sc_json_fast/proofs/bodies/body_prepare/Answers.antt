use Rattle.sc_json_fast.proofs.BodyTexts.{prepare_begins}
use Rattle.sc_json_fast.proofs.bodies.body_prepare.Goals as goal

pub returns : goal.returns
returns c = prepare_begins _ _ _ _ _ c.in_ok-ballot.ensures.a c.in_ok-ballot.ensures.b c.in_ok-ballot.ensures.c c.in_ok-ballot.ensures.text
