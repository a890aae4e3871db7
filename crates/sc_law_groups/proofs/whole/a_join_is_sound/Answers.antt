use Rattle.sc_law_groups.specs.group.GroupDefinitions.{join_scenario, join_example}
use Rattle.sc_law_groups.specs.whole.WholeDefinitions.{join_text}
use Rattle.sc_law_groups.proofs.WholeProofs.Examples.{text_sound, join_is_read}
use Rattle.sc_law_groups.proofs.whole.a_join_is_sound.Goals as goal

pub returns-clause-text : goal.returns-clause-text
returns-clause-text c = join_is_read

pub returns-clause-sound : goal.returns-clause-sound
returns-clause-sound c = text_sound c.valid_journals_are_sound.ensures join_text join_scenario join_is_read join_example c.a_journal_with_a_join.ensures.lawful
