use Rattle.sc_json_fast.proofs.RowTexts.{go_begins}
use Rattle.sc_json_fast.proofs.rows.event_go.Goals as goal

pub returns : goal.returns
returns c = go_begins _ _ c.in_ok-rest.ensures
