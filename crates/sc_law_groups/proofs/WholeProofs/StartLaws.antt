-- What a lawful journal begins with: groups in place under names of their own, to which nothing has happened, and players that are seated; and that every valid scenario begins so.
use Rattle.sc_law_groups.proofs.WholeProofs.StartValid.{valid_begin_well}
use Rattle.sc_scenario.proofs.ScenarioProofs.Lemmas.{valid_scenarios_are_bounded}
use Rattle.sc_law_groups.specs.whole.WholeDefinitions.{ValidScenariosBeginWell}

-- Every valid scenario begins well.
pub valid_scenarios_begin_well : ValidScenariosBeginWell
valid_scenarios_begin_well = valid_begin_well valid_scenarios_are_bounded
