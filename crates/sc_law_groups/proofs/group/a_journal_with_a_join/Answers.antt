use Rattle.sc_law_groups.proofs.GroupProofs.JoinExample.{join_is_lawful}
use Rattle.sc_law_groups.proofs.group.a_journal_with_a_join.Goals as goal

pub returns-clause-lawful : goal.returns-clause-lawful
returns-clause-lawful c = join_is_lawful
