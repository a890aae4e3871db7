use Rattle.sc_law_entries.proofs.HistoryProofs.StoreAdditions.{log_makes_history}
use Rattle.sc_law_entries.proofs.history.logs_make_histories.Goals as goal

pub returns : goal.returns
returns c = log_makes_history
