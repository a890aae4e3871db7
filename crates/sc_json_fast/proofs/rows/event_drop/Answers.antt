use Rattle.sc_json_fast.proofs.RowTexts.{drop_begins}
use Rattle.sc_json_fast.proofs.rows.event_drop.Goals as goal

pub returns : goal.returns
returns c = drop_begins _ _ _ c.in_ok-content.ensures.only c.in_ok-content.ensures.text
