use Rattle.sc_law_entries.proofs.LogsProofs.Histories.{deciding_rows_stay}
use Rattle.sc_law_entries.proofs.logs.deciding_rows_stay.Goals as goal

pub returns : goal.returns
returns c = deciding_rows_stay
