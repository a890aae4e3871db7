use Rattle.sc_law_groups.proofs.WholeProofs.LawfulSoundness.{lawful_journals_hold_beside}
use Rattle.sc_law_groups.proofs.whole.lawful_journals_hold_beside.Goals as goal

pub returns : goal.returns
returns c = lawful_journals_hold_beside
