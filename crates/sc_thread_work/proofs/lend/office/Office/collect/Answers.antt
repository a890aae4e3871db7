use Rattle.std.proofs.Common.{subst}
use Rattle.sc_thread_work.specs.lend.LendDefinitions.{IsLeft}
use Rattle.sc_thread_work.proofs.lend.office.Office.collect.Goals as goal

pub returns-in-Some-looks-clause-left : goal.returns-in-Some-looks-clause-left
returns-in-Some-looks-clause-left g c = subst (λ l. IsLeft g.T.Labour.leaves l c.args.wanted c.in-Some-looks.work) c.loop.invariant.same c.in-Some-looks.ensures.left
