use Rattle.sc_thread_work.proofs.LendProofs.KeptLendRule.{begins}
use Rattle.sc_thread_work.proofs.lend.office.open.Goals as goal

pub ruled-requires-clause-rule : goal.ruled-requires-clause-rule
ruled-requires-clause-rule g c = begins g.T.Labour.leaves
