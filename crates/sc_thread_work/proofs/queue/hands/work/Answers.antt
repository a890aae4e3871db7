use Rattle.std.proofs.Common.{◌≡◌, ◌∙◌, ap, arith, rules, [], ◌∷◌, ◌++◌}
use Rattle.sc_thread_work.proofs.QueueProofs.KeptQueueRule.{takes, knows, did_none, did_more}
use Rattle.crossbeam_queue.specs.Passes.{view}
use Rattle.sc_thread_work.proofs.queue.hands.work.Goals as goal

pub pop_as-requires-clause-rule : goal.pop_as-requires-clause-rule
pop_as-requires-clause-rule g c =
    let parts : (view c.loop.pass).parts ≡ (view c.args.pass).parts = ap (λ v. v.parts) c.loop.invariant.did.view_is in
    (takes _ _ (omega (arith, parts, c.requires.part)), knows _ _)

pub loop-init : goal.loop-init
loop-init g c = record {
  pass = c.requires.pass;
  did = did_none g.F.Fn c.args.f.now (view c.args.pass) c.new-kept.result.items c.new-kept.ensures.items;
}

pub loop-preserved : goal.loop-preserved
loop-preserved g c = record {
  pass = search rules;
  did = did_more g.F.Fn c.args.f.now (view c.args.pass) (view c.loop.pass) (view c.pop_as.new.pass) c.loop.kept.items c.push_reserved.new.self.items c.in-Some-pop_as.item c.f.result
      c.loop.invariant.did c.in-Some-pop_as.ensures.rule (record { met = c.f.ensures }) (c.push_reserved.ensures.items ∙ ap (λ l. l ++ record { place = c.in-Some-pop_as.item.place; work = c.f.result } ∷ []) c.reserve.ensures.items);
}
