use Rattle.sc_world_entries.proofs.ScanProofs.ScanMeaning.{scans_show}
use Rattle.sc_world_entries.proofs.scans.laws.scans_show.Goals as goal

pub returns : goal.returns
returns c = scans_show c.walks_share_arcs.ensures
