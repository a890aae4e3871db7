use Rattle.sc_law_groups.proofs.GroupProofs.ElectionExample.{example_is_lawful}
use Rattle.sc_law_groups.proofs.group.a_journal_with_an_election.Goals as goal

pub returns-clause-lawful : goal.returns-clause-lawful
returns-clause-lawful c = example_is_lawful
