use Rattle.sc_law_groups.specs.group.GroupDefinitions.{election_scenario, election_example}
use Rattle.sc_law_groups.specs.whole.WholeDefinitions.{election_text}
use Rattle.sc_law_groups.proofs.WholeProofs.Examples.{text_sound, election_is_read}
use Rattle.sc_law_groups.proofs.whole.an_election_is_sound.Goals as goal

pub returns-clause-text : goal.returns-clause-text
returns-clause-text c = election_is_read

pub returns-clause-sound : goal.returns-clause-sound
returns-clause-sound c = text_sound c.valid_journals_are_sound.ensures election_text election_scenario election_is_read election_example c.a_journal_with_an_election.ensures.lawful
