use Rattle.sc_law_entries.proofs.LogsProofs.Allows.{groups_allow_others}
use Rattle.sc_law_entries.proofs.logs.groups_allow_others.Goals as goal

pub returns : goal.returns
returns c = groups_allow_others
