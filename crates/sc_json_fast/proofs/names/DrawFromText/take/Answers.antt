use Rattle.sc_json_fast.proofs.Spelling.{draw_begins}
use Rattle.sc_json_fast.proofs.names.DrawFromText.take.Goals as goal

pub returns : goal.returns
returns c = draw_begins _ _ _ _ c.in_ok-node.ensures.a c.in_ok-node.ensures.b c.in_ok-node.ensures.text
