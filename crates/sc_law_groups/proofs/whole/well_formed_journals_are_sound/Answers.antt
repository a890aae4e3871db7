use Rattle.sc_law_groups.proofs.WholeProofs.WholeLemmas.{bounded_is_formed, well_formed_journals_are_sound}
use Rattle.sc_law_groups.proofs.whole.well_formed_journals_are_sound.Goals as goal

pub returns-clause-formed : goal.returns-clause-formed
returns-clause-formed c = bounded_is_formed

pub returns-clause-sound : goal.returns-clause-sound
returns-clause-sound c = well_formed_journals_are_sound
