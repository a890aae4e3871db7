use Rattle.sc_law_groups.specs.whole.WholeDefinitions.{two_text, two_scenario, two_example}
use Rattle.sc_law_groups.proofs.WholeProofs.Examples.{text_sound, two_are_read}
use Rattle.sc_law_groups.proofs.WholeProofs.TwoGroups.{two_is_lawful}
use Rattle.sc_law_groups.proofs.whole.a_journal_of_two_groups.Goals as goal

pub returns-clause-text : goal.returns-clause-text
returns-clause-text c = two_are_read

pub returns-clause-lawful : goal.returns-clause-lawful
returns-clause-lawful c = two_is_lawful

pub returns-clause-sound : goal.returns-clause-sound
returns-clause-sound c = text_sound c.valid_journals_are_sound.ensures two_text two_scenario two_are_read two_example two_is_lawful
