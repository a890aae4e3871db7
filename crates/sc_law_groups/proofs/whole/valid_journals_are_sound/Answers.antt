use Rattle.sc_law_groups.proofs.WholeProofs.WholeLaws.{valid_journals_are_sound}
use Rattle.sc_law_groups.proofs.whole.valid_journals_are_sound.Goals as goal

pub returns : goal.returns
returns c = valid_journals_are_sound
