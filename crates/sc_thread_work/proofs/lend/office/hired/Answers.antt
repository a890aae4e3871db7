use Rattle.std.proofs.Common.{subst, sym, rules, ◌∙◌, All}
use Rattle.std.proofs.lemmas.List.Elements.{All-push}
use Rattle.crossbeam_queue.specs.Passes.{IsPassOf}
use Rattle.sc_thread_work.proofs.LendProofs.KeptLendRule.{hires}
use Rattle.sc_thread_work.proofs.lend.office.hired.Goals as goal

pub another-requires-clause-rule : goal.another-requires-clause-rule
another-requires-clause-rule g c = hires g.T.Labour.leaves _ _

pub loop-preserved : goal.loop-preserved
loop-preserved g c = record {
  pass = search rules;
  same = c.another.ensures.rule.0 ∙ c.loop.invariant.same;
  len = search rules;
  each = subst (All (λ p. IsPassOf c.args.bench.now p)) (sym c.in_ok-push.ensures.items) (All-push (λ p. IsPassOf c.args.bench.now p) c.loop.passes.items c.another.result c.loop.invariant.each c.another.ensures.queue.1);
}
