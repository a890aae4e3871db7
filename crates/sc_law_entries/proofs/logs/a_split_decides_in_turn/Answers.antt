use Rattle.sc_law_entries.proofs.LogsProofs.TurnExample.{example_in_turn}
use Rattle.sc_law_entries.proofs.logs.a_split_decides_in_turn.Goals as goal

pub returns : goal.returns
returns c = example_in_turn
