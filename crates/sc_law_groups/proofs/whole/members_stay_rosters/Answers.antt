use Rattle.sc_law_groups.proofs.WholeProofs.Members.{members_stay_rosters}
use Rattle.sc_law_groups.proofs.whole.members_stay_rosters.Goals as goal

pub returns : goal.returns
returns c = members_stay_rosters
