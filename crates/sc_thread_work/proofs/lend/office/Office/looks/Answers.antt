use Rattle.std.proofs.Common.{subst}
use Rattle.sc_thread_work.specs.lend.LendDefinitions.{IsLeft}
use Rattle.sc_thread_work.proofs.lend.office.Office.looks.Goals as goal

pub returns-in-Some-clause-left : goal.returns-in-Some-clause-left
returns-in-Some-clause-left g c = subst (λ l. IsLeft g.T.Labour.leaves l c.args.wanted c.in-Some.work) c.loop.invariant.same c.in-Some.ensures.left
