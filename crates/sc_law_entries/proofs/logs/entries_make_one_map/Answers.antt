use Rattle.sc_law_entries.proofs.LogsProofs.Findings.{entries_make_one_map}
use Rattle.sc_law_entries.proofs.logs.entries_make_one_map.Goals as goal

pub returns : goal.returns
returns c = entries_make_one_map c.allowed_entries_make_one_map.ensures
