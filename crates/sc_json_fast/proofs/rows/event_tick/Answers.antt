use Rattle.sc_json_fast.proofs.RowTexts.{tick_begins}
use Rattle.sc_json_fast.proofs.rows.event_tick.Goals as goal

pub returns : goal.returns
returns c = tick_begins _ _ c.in_ok-rest.ensures
