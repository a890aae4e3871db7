use Rattle.sc_world_entries.proofs.ScanProofs.ScanMeaning.{entries_count}
use Rattle.sc_world_entries.proofs.scans.laws.entries_count_logs.Goals as goal

pub returns : goal.returns
returns c = entries_count
