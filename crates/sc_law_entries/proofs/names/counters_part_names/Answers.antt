use Rattle.sc_law_entries.proofs.NamesProofs.Counters.{nodes_have_names}
use Rattle.sc_law_entries.proofs.names.counters_part_names.Goals as goal

pub returns : goal.returns
returns c = nodes_have_names
