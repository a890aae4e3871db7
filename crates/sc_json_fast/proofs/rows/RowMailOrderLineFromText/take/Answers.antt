use Rattle.sc_json_fast.proofs.RowTexts.{row_begins}
use Rattle.sc_json_fast.proofs.rows.RowMailOrderLineFromText.take.Goals as goal

pub returns : goal.returns
returns c = row_begins _ _ _ _ _ c.in_ok-event.ensures.a c.in_ok-event.ensures.b c.in_ok-event.ensures.c c.in_ok-event.ensures.text
