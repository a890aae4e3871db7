use Rattle.std.proofs.Common.{refl}
use Rattle.sc_law_groups.specs.whole.WholeDefinitions.{split_scenario, split_example, split_text}
use Rattle.sc_law_groups.proofs.WholeProofs.Examples.{text_sound, split_is_read}
use Rattle.sc_law_groups.proofs.WholeProofs.SplitExample.{split_is_lawful}
use Rattle.sc_law_groups.proofs.whole.a_journal_with_a_split.Goals as goal

pub returns-clause-text : goal.returns-clause-text
returns-clause-text c = split_is_read

pub returns-clause-lawful : goal.returns-clause-lawful
returns-clause-lawful c = split_is_lawful

pub returns-clause-sound : goal.returns-clause-sound
returns-clause-sound c = text_sound c.valid_journals_are_sound.ensures split_text split_scenario split_is_read split_example split_is_lawful

pub returns-clause-groups : goal.returns-clause-groups
returns-clause-groups c = refl

pub returns-clause-log : goal.returns-clause-log
returns-clause-log c = refl

pub returns-clause-kid_log : goal.returns-clause-kid_log
returns-clause-kid_log c = refl

pub returns-clause-ring : goal.returns-clause-ring
returns-clause-ring c = refl
