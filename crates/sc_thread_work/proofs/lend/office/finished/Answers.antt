use Rattle.std.proofs.Common.{refl}
use Rattle.sc_thread_work.proofs.LendProofs.KeptLendRule.{finished_same, finished_now}
use Rattle.sc_thread_work.proofs.lend.office.finished.Goals as goal

pub returns-then-loan : goal.returns-then-loan
returns-then-loan g c = finished_same g.T.Labour.leaves c.args.loan c.if-loan.true

pub returns : goal.returns
returns g c = finished_now g.T.Labour.leaves c.args.loan _ c.if-loan.false refl refl (c.requires.leaves _ _ (record { met = c.f.ensures }))
