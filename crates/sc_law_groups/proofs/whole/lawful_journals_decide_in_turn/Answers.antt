use Rattle.sc_law_groups.proofs.WholeProofs.LawfulSoundness.{lawful_journals_decide_in_turn}
use Rattle.sc_law_groups.proofs.whole.lawful_journals_decide_in_turn.Goals as goal

pub returns : goal.returns
returns c = lawful_journals_decide_in_turn
