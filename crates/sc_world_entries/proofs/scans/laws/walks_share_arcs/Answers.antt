use Rattle.sc_world_entries.proofs.ScanProofs.Walks.{walks_share}
use Rattle.sc_world_entries.proofs.scans.laws.walks_share_arcs.Goals as goal

pub returns : goal.returns
returns c = walks_share
