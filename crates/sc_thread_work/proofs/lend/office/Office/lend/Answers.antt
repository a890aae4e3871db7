use Rattle.std.proofs.Common.{refl, ap}
use Rattle.sc_thread_work.specs.declared.lend.rule.Clerk.{Clerk}
use Rattle.sc_thread_work.proofs.LendProofs.KeptLendRule.{lends, is_out}
use Rattle.sc_thread_work.proofs.lend.office.Office.lend.Goals as goal

pub push_as-requires-clause-rule : goal.push_as-requires-clause-rule
push_as-requires-clause-rule g c = (lends g.T.Labour.leaves _ _ _ _ c.args.lender.now.lends c.args.lender.now.counted refl, is_out g.T.Labour.leaves _ _)

pub returns-in-Ok-clause-ok : goal.returns-in-Ok-clause-ok
returns-in-Ok-clause-ok g c = (c.args.lender.now.counted, ap (λ (v : Clerk _). v.lent) c.in-Ok.ensures.rule)
