use Rattle.sc_law_entries.proofs.HistoryProofs.QuietLaw.{quiet_entries_history}
use Rattle.sc_law_entries.proofs.history.quiet_entries_make_a_legal_history.Goals as goal

pub returns : goal.returns
returns c = quiet_entries_history
