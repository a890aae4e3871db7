use Rattle.sc_json_fast.proofs.RowTexts.{crash_begins}
use Rattle.sc_json_fast.proofs.rows.event_crash.Goals as goal

pub returns : goal.returns
returns c = crash_begins _ _ c.in_ok-rest.ensures
