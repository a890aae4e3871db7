use Rattle.sc_json_fast.proofs.BodyTexts.{request_begins}
use Rattle.sc_json_fast.proofs.bodies.body_request.Goals as goal

pub returns : goal.returns
returns c = request_begins _ _ _ _ _ _ c.in_ok-client.ensures.a c.in_ok-client.ensures.b c.in_ok-client.ensures.c c.in_ok-client.ensures.d c.in_ok-client.ensures.text
