use Rattle.sc_law_entries.proofs.LogsProofs.Findings.{groups_are_found, groups_are_old_or_new}
use Rattle.sc_law_entries.proofs.logs.groups_are_born_under_new_names.Goals as goal

pub returns : goal.returns
returns c = record { found = groups_are_found; new = groups_are_old_or_new }
