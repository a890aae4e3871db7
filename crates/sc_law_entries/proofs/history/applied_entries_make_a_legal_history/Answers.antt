use Rattle.sc_law_entries.proofs.HistoryProofs.EntryMoves.{entries_move, entries_report}
use Rattle.sc_law_entries.proofs.history.applied_entries_make_a_legal_history.Goals as goal

pub returns : goal.returns
returns c = record { each = entries_move; all = entries_report }
