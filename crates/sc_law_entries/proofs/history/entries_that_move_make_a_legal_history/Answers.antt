use Rattle.sc_law_entries.proofs.HistoryProofs.MoveLaw.{moves_make_worlds}
use Rattle.sc_law_entries.proofs.history.entries_that_move_make_a_legal_history.Goals as goal

pub returns : goal.returns
returns c = moves_make_worlds
