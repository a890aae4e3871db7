use Rattle.sc_paxos_law.proofs.Example.{lawful}
use Rattle.sc_paxos_law.proofs.a_lawful_history.Goals as goal

pub returns-clause-lawful : goal.returns-clause-lawful
returns-clause-lawful c = lawful
