use Rattle.sc_law_entries.proofs.HistoryProofs.MovesKept.{move_kept, moves_make_history}
use Rattle.sc_law_entries.proofs.history.moves_make_histories.Goals as goal

pub returns : goal.returns
returns c = record { one = move_kept; all = moves_make_history }
