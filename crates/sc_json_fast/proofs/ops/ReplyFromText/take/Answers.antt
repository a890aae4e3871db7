use Rattle.sc_json_fast.proofs.OpTexts.{reply_begins}
use Rattle.sc_json_fast.proofs.ops.ReplyFromText.take.Goals as goal

pub returns : goal.returns
returns c = reply_begins _ _ _ c.in_ok-old.ensures.only c.in_ok-old.ensures.text
