use Rattle.sc_json_fast.proofs.OpTexts.{put_begins}
use Rattle.sc_json_fast.proofs.ops.op_put.Goals as goal

pub returns : goal.returns
returns c = put_begins _ _ _ _ c.in_ok-key.ensures.a c.in_ok-key.ensures.b c.in_ok-key.ensures.text
