use Rattle.sc_law_groups.proofs.WholeProofs.Seats.{all_apart, all_numbered}
use Rattle.sc_world.proofs.Lines.{few, spared}
use Rattle.sc_world.proofs.Names.{all_ordered}
use Rattle.sc_world.proofs.laws.valid_scenarios_can_play.Goals as goal

pub returns : goal.returns
returns c = λ scenario valid.
    let bounded = c.valid_scenarios_are_bounded.ensures scenario valid in
    record {
      ordered = all_ordered scenario bounded;
      apart = all_apart scenario bounded;
      numbered = all_numbered scenario bounded;
      spared = spared scenario bounded;
      few = few scenario bounded;
    }
