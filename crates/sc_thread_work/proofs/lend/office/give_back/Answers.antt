use Rattle.std.proofs.Common.{◌<◌, subst, sym}
use Rattle.sc_thread_work.specs.declared.lend.rule.Clerk.{Clerk}
use Rattle.crossbeam_queue.specs.Passes.{view}
use Rattle.sc_thread_work.specs.lend.LendDefinitions.{MayGiveBack}
use Rattle.sc_thread_work.proofs.LendProofs.KeptLendRule.{gives_back}
use Rattle.sc_thread_work.proofs.lend.office.give_back.Goals as goal

pub push_as-requires-clause-rule : goal.push_as-requires-clause-rule
push_as-requires-clause-rule g c =
    let may : MayGiveBack g.T.Labour.leaves (view c.loop.pass) c.loop.next = subst (λ v. MayGiveBack g.T.Labour.leaves v c.loop.next) (sym c.loop.invariant.same) (subst (MayGiveBack g.T.Labour.leaves (view c.args.pass.now)) (sym c.loop.invariant.next) c.requires.may) in
    let out : 0 < (view c.loop.pass).out = subst (λ (v : Clerk _). 0 < v.out) (sym c.loop.invariant.same) c.requires.out in
    (gives_back g.T.Labour.leaves _ _ _ _ may out, λ items views k at. tt)
