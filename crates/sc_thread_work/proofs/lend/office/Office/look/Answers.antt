use Rattle.std.proofs.Common.{subst, arith}
use Rattle.crossbeam_queue.specs.Passes.{view}
use Rattle.sc_thread_work.specs.lend.LendDefinitions.{IsLeft}
use Rattle.sc_thread_work.proofs.LendProofs.KeptLendRule.{takes, finished_held, back}
use Rattle.sc_thread_work.proofs.lend.office.Office.look.Goals as goal

pub pop_as-requires-clause-rule : goal.pop_as-requires-clause-rule
pop_as-requires-clause-rule g c = (takes g.T.Labour.leaves _ _, λ items views k at. tt)

pub give_back-requires-clause-may : goal.give_back-requires-clause-may
give_back-requires-clause-may g c =
    finished_held g.T.Labour.leaves (view c.args.lender.now.pass) (view c.pop_as.new.pass) c.in-Some.loan c.finished-left.result c.in-Some.ensures.rule c.finished-left.ensures

pub returns-clause-left : goal.returns-clause-left
returns-clause-left g c =
    let whole = back g.T.Labour.leaves (view c.args.lender.now.pass) (view c.pop_as.new.pass) c.in-Some.loan c.finished-left.result c.args.lender.now.lends c.in-Some.ensures.rule c.finished-left.ensures in
    subst (λ n. IsLeft g.T.Labour.leaves (view c.args.lender.now.pass).lent n c.finished-left.result.work) (omega arith) whole
