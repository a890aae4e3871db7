use Rattle.std.proofs.Common.{◌∙◌, ◌+◌, ◌<◌, ◌^◌, sym, ap, arith, [], ◌∷◌, ◌++◌}
use Rattle.std.proofs.lemmas.List.{map-id}
use Rattle.std.proofs.lemmas.Iterator.Adapters.{YieldsList-from_vec}
use Rattle.std.proofs.lemmas.Iterator.Consumers.{YieldsList-turn, YieldsList-so_far}
use Rattle.sc_thread_workers.proofs.Phasing.{rows_more, shells_more, rows_fit}
use Rattle.sc_thread_workers.proofs.phases.put_back.Goals as goal

pub overflow_add-did : goal.overflow_add-did
overflow_add-did g c =
    let all = YieldsList-from_vec c.args.all.items c.into_iter-one-iterator.ensures.into_iter_gives.0 (c.into_iter-one-iterator.ensures.into_iter_gives.1 ∙ c.args.all.ok.0) in
    let turn = YieldsList-turn all c.loop-one.yielded c.loop-one.one-iterator c.loop-one.yielded_by c.next.result c.next.new.self c.in-Some.one c.in-Some.is c.next.ensures.steps in
    let so_far = YieldsList-so_far all c.loop-one.yielded c.loop-one.one-iterator c.loop-one.yielded_by in
    let low : c.loop-one.did + c.in-Some.one.did < 2 ^ 32 = rows_fit c.args.all.items c.loop-one.yielded c.in-Some.one c.loop-one.did (2 ^ 32) c.loop-one.invariant.did (sym (map-id c.loop-one.yielded) ∙ so_far) turn.0 turn.1 c.requires.fits in
    omega (arith, low)

pub loop-one-preserved : goal.loop-one-preserved
loop-one-preserved g c = record {
  shells = c.in_ok-push.ensures.items ∙ (ap (λ l. l ++ c.in-Some.one.shell ∷ []) c.loop-one.invariant.shells ∙ sym (shells_more c.loop-one.yielded c.in-Some.one));
  did = omega (arith, c.loop-one.invariant.did, rows_more c.loop-one.yielded c.in-Some.one);
}
