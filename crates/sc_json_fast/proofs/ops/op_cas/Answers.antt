use Rattle.sc_json_fast.proofs.OpTexts.{cas_begins}
use Rattle.sc_json_fast.proofs.ops.op_cas.Goals as goal

pub returns : goal.returns
returns c = cas_begins _ _ _ _ _ c.in_ok-expect.ensures.a c.in_ok-expect.ensures.b c.in_ok-expect.ensures.c c.in_ok-expect.ensures.text
