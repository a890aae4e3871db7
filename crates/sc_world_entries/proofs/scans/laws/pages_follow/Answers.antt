use Rattle.sc_world_entries.proofs.ScanProofs.Paged.{pages_follow}
use Rattle.sc_world_entries.proofs.scans.laws.pages_follow.Goals as goal

pub returns : goal.returns
returns c = pages_follow
