use Rattle.sc_run.proofs.WithinBudget.{runs}
use Rattle.sc_run.proofs.running.run.Goals as goal

pub returns-clause-runs : goal.returns-clause-runs
returns-clause-runs g c = runs _ _ _ _ c.say_and_print.ensures.ends

pub returns-clause-unread : goal.returns-clause-unread
returns-clause-unread g c = c.say_and_print.ensures.unread

pub returns-clause-takes : goal.returns-clause-takes
returns-clause-takes g c = c.say_and_print.ensures.takes
