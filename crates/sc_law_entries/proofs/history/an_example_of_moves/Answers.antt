use Rattle.sc_law_entries.proofs.HistoryProofs.MovesExample.{example_of_moves}
use Rattle.sc_law_entries.proofs.history.an_example_of_moves.Goals as goal

pub returns : goal.returns
returns c = example_of_moves
