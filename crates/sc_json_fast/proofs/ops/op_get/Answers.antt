use Rattle.sc_json_fast.proofs.OpTexts.{get_begins}
use Rattle.sc_json_fast.proofs.ops.op_get.Goals as goal

pub returns : goal.returns
returns c = get_begins _ _ _ c.in_ok-key.ensures.only c.in_ok-key.ensures.text
