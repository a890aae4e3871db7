use Rattle.std.proofs.Common.{[], ◌∷◌, length, length-append, ap, arith}
use Rattle.sc_thread_work.proofs.LendProofs.Longer.{lent_last, lent_longer}
use Rattle.sc_thread_work.specs.lend.Offices.{lent_by}
use Rattle.sc_thread_workers.proofs.lending.send.Goals as goal

pub returns-in-Ok-clause-later : goal.returns-in-Ok-clause-later
returns-in-Ok-clause-later g c = lent_longer (lent_by c.args.lender.now) (lent_by c.lend.new.lender) c.args.run c.in-Ok.ensures.ok.1

pub returns-in-Ok-clause-sent : goal.returns-in-Ok-clause-sent
returns-in-Ok-clause-sent g c = lent_last (lent_by c.args.lender.now) (lent_by c.lend.new.lender) c.args.run c.in-Ok.ensures.ok.1 c.in-Ok.number c.in-Ok.ensures.ok.0

pub returns-in-Ok-clause-few : goal.returns-in-Ok-clause-few
returns-in-Ok-clause-few g c = omega (arith, ap length c.in-Ok.ensures.ok.1, length-append (lent_by c.args.lender.now) (c.args.run ∷ []))
