use Rattle.sc_law_entries.proofs.LogsProofs.OneGroup.{for_one}
use Rattle.sc_law_entries.proofs.LogsProofs.RowsInTwoParts.{rows_go_on}
use Rattle.sc_law_entries.proofs.logs.rows_decide_for_one_group.Goals as goal

pub returns : goal.returns
returns c = record { one = for_one; more = rows_go_on }
