use Rattle.sc_json_fast.proofs.OpTexts.{del_begins}
use Rattle.sc_json_fast.proofs.ops.op_del.Goals as goal

pub returns : goal.returns
returns c = del_begins _ _ _ c.in_ok-key.ensures.only c.in_ok-key.ensures.text
