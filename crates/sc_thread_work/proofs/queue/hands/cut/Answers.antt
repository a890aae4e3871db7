use Rattle.std.proofs.Common.{◌≡◌, ◌∙◌, sym, ap, subst, arith, rules, ◌-◌, ◌+◌, All}
use Rattle.std.proofs.lemmas.List.Elements.{All-push}
use Rattle.sc_thread_work.specs.queue.QueueDefinitions.{all_parts, hand, taker, less}
use Rattle.sc_thread_work.proofs.QueueProofs.KeptQueueRule.{forks}
use Rattle.crossbeam_queue.specs.Passes.{view, IsPassOf}
use Rattle.sc_thread_work.proofs.queue.hands.cut.Goals as goal

pub another-requires-clause-rule : goal.another-requires-clause-rule
another-requires-clause-rule g c =
    let parts : (view c.loop.pass).parts ≡ all_parts - c.loop.counter = ap (λ v. v.parts) c.loop.invariant.left in
    forks _ _ (omega (arith, parts, c.requires.parts.1, c.loop-test.true))

pub loop-preserved : goal.loop-preserved
loop-preserved g c = record {
  pass = search rules;
  left =
      c.another.ensures.rule.0 ∙ (ap less c.loop.invariant.left
      ∙ ap (λ n. hand n (view c.args.pass.now).puts (view c.args.pass.now).put (view c.args.pass.now).taken (view c.args.pass.now).passes) (let same : all_parts - c.loop.counter - 1 ≡ all_parts - (c.loop.counter + 1) = omega arith in same));
  len = search rules;
  each = subst (All (λ p. IsPassOf c.args.bench.now p × (view p ≡ taker))) (sym c.in_ok-push.ensures.items) (All-push (λ p. IsPassOf c.args.bench.now p × (view p ≡ taker)) c.loop.passes.items c.another.result c.loop.invariant.each (c.another.ensures.queue.1, c.another.ensures.rule.1));
}
