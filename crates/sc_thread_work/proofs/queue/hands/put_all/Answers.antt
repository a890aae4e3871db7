use Rattle.std.proofs.Common.{◌∙◌, sym, ap, arith, length, [], ◌∷◌, ◌++◌, true, length-append}
use Rattle.std.proofs.lemmas.List.{map-id}
use Rattle.std.proofs.lemmas.Iterator.Adapters.{YieldsList-from_vec}
use Rattle.std.proofs.lemmas.Iterator.Consumers.{YieldsList-turn, YieldsList-end}
use Rattle.sc_thread_work.specs.queue.QueueDefinitions.{all_parts, hand, numbered, with_put}
use Rattle.sc_thread_work.proofs.QueueProofs.KeptQueueRule.{numbered_more, numbered_length}
use Rattle.sc_thread_work.proofs.queue.hands.put_all.Goals as goal

pub put-requires-clause-puts : goal.put-requires-clause-puts
put-requires-clause-puts g c = ap (λ v. v.puts) c.loop-work.invariant.put

pub put-requires-clause-next : goal.put-requires-clause-next
put-requires-clause-next g c =
    c.loop-work.invariant.next ∙ (sym (numbered_length 0 c.loop-work.yielded) ∙ sym (ap (λ v. length v.put) c.loop-work.invariant.put))

pub put-requires-clause-room : goal.put-requires-clause-room
put-requires-clause-room g c =
    let all = YieldsList-from_vec c.args.all.items c.into_iter-work-iterator.ensures.into_iter_gives.0 (c.into_iter-work-iterator.ensures.into_iter_gives.1 ∙ c.args.all.ok.0) in
    let turn = YieldsList-turn all c.loop-work.yielded c.loop-work.work-iterator c.loop-work.yielded_by c.next.result c.next.new.self c.in-Some.work c.in-Some.is c.next.ensures.steps in
    omega (arith, turn.0, c.loop-work.invariant.next, c.requires.room, c.args.all.ok.0)

pub loop-work-preserved : goal.loop-work-preserved
loop-work-preserved g c = record {
  pass = c.put.ensures.pass;
  put =
      c.put.ensures.put
      ∙ (ap (λ v. with_put v (record { place = c.loop-work.place; work = c.in-Some.work })) c.loop-work.invariant.put
      ∙ (ap (λ n. hand all_parts true (numbered 0 c.loop-work.yielded ++ record { place = n; work = c.in-Some.work } ∷ []) [] 0) c.loop-work.invariant.next
      ∙ ap (λ l. hand all_parts true l [] 0) (sym (numbered_more c.loop-work.yielded c.in-Some.work))));
  next = omega (arith, c.loop-work.invariant.next, length-append c.loop-work.yielded (c.in-Some.work ∷ []));
}

pub returns-clause-put : goal.returns-clause-put
returns-clause-put g c =
    let all = YieldsList-from_vec c.args.all.items c.into_iter-work-iterator.ensures.into_iter_gives.0 (c.into_iter-work-iterator.ensures.into_iter_gives.1 ∙ c.args.all.ok.0) in
    let end = YieldsList-end all c.loop-work.yielded c.loop-work.work-iterator c.loop-work.yielded_by c.next.result c.next.new.self c.in-None.is c.next.ensures.steps in
    c.loop-work.invariant.put ∙ ap (λ l. hand all_parts true (numbered 0 l) [] 0) (sym (map-id c.loop-work.yielded) ∙ end.0)
