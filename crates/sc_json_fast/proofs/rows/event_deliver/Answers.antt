use Rattle.sc_json_fast.proofs.RowTexts.{deliver_begins}
use Rattle.sc_json_fast.proofs.rows.event_deliver.Goals as goal

pub returns : goal.returns
returns c = deliver_begins _ _ _ c.in_ok-content.ensures.only c.in_ok-content.ensures.text
