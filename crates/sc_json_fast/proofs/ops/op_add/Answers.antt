use Rattle.sc_json_fast.proofs.OpTexts.{add_begins}
use Rattle.sc_json_fast.proofs.ops.op_add.Goals as goal

pub returns : goal.returns
returns c = add_begins _ _ _ _ c.in_ok-key.ensures.a c.in_ok-key.ensures.b c.in_ok-key.ensures.text
