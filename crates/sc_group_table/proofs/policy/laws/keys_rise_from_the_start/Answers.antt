use Rattle.sc_group_table.proofs.PolicyProofs.RisingPositions.{keys_rise}
use Rattle.sc_group_table.proofs.policy.laws.keys_rise_from_the_start.Goals as goal

pub returns : goal.returns
returns c = keys_rise
