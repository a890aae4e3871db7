use Rattle.sc_law_groups.proofs.WholeProofs.WholeLaws.{lawful_journals_are_sound}
use Rattle.sc_law_groups.proofs.whole.lawful_journals_are_sound.Goals as goal

pub returns : goal.returns
returns c = lawful_journals_are_sound
