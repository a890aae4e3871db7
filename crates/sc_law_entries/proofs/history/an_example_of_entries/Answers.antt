use Rattle.sc_law_entries.proofs.HistoryProofs.EntriesExample.{example_of_entries}
use Rattle.sc_law_entries.proofs.history.an_example_of_entries.Goals as goal

pub returns : goal.returns
returns c = example_of_entries
