use Rattle.sc_law_entries.proofs.LogsProofs.Histories.{history_is_decided}
use Rattle.sc_law_entries.proofs.logs.history_is_decided_by_rows.Goals as goal

pub returns : goal.returns
returns c = history_is_decided
