use Rattle.sc_law_groups.proofs.WholeProofs.StartLaws.{valid_scenarios_begin_well}
use Rattle.sc_law_groups.proofs.whole.starting.valid_scenarios_begin_well.Goals as goal

pub returns : goal.returns
returns c = valid_scenarios_begin_well
