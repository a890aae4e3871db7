use Rattle.sc_json_fast.proofs.RowTexts.{again_begins}
use Rattle.sc_json_fast.proofs.rows.event_again.Goals as goal

pub returns : goal.returns
returns c = again_begins _ _ _ c.in_ok-content.ensures.only c.in_ok-content.ensures.text
