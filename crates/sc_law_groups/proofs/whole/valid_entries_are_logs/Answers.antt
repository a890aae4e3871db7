use Rattle.sc_law_groups.proofs.WholeProofs.WholeLaws.{valid_entries_are_logs}
use Rattle.sc_law_groups.proofs.whole.valid_entries_are_logs.Goals as goal

pub returns : goal.returns
returns c = valid_entries_are_logs
