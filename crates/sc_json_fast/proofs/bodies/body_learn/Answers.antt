use Rattle.sc_json_fast.proofs.BodyTexts.{learn_begins}
use Rattle.sc_json_fast.proofs.bodies.body_learn.Goals as goal

pub returns : goal.returns
returns c = learn_begins _ _ _ _ _ c.in_ok-command.ensures.a c.in_ok-command.ensures.b c.in_ok-command.ensures.c c.in_ok-command.ensures.text
