use Rattle.sc_law_entries.proofs.LogsProofs.OneMap.{allowed_entries_make_one_map}
use Rattle.sc_law_entries.proofs.logs.allowed_entries_make_one_map.Goals as goal

pub returns : goal.returns
returns c = allowed_entries_make_one_map
