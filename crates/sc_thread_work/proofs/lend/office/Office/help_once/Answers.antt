use Rattle.crossbeam_queue.specs.Passes.{view}
use Rattle.sc_thread_work.proofs.LendProofs.KeptLendRule.{takes, finished_held}
use Rattle.sc_thread_work.proofs.lend.office.Office.help_once.Goals as goal

pub pop_as-requires-clause-rule : goal.pop_as-requires-clause-rule
pop_as-requires-clause-rule g c = (takes g.T.Labour.leaves _ _, λ items views k at. tt)

pub give_back-requires-clause-may : goal.give_back-requires-clause-may
give_back-requires-clause-may g c =
    finished_held g.T.Labour.leaves (view c.args.helper.now) (view c.pop_as.new.pass) c.in-Some.loan c.finished-left.result c.in-Some.ensures.rule c.finished-left.ensures
