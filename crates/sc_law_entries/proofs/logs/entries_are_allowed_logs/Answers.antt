use Rattle.sc_law_entries.proofs.LogsProofs.Findings.{entries_are_logs, entries_are_allowed}
use Rattle.sc_law_entries.proofs.logs.entries_are_allowed_logs.Goals as goal

pub returns : goal.returns
returns c = record { logs = entries_are_logs; allowed = entries_are_allowed }
