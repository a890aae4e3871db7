use Rattle.std.proofs.Common.{◌≡◌, ◌∙◌, sym, ap, arith, length, [], ◌∷◌, Some, slice_set}
use Rattle.std.proofs.lemmas.Iterator.Adapters.{YieldsList-from_vec}
use Rattle.std.proofs.lemmas.Iterator.Consumers.{YieldsList-turn}
use Rattle.sc_thread_work.proofs.QueueProofs.KeptQueueRule.{filled_append, filled_length, inside_at}
use Rattle.sc_thread_work.proofs.queue.hands.fill.Goals as goal

pub keep-requires : goal.keep-requires
keep-requires g c =
    let all = YieldsList-from_vec c.args.kept.items c.into_iter-item-iterator.ensures.into_iter_gives.0 (c.into_iter-item-iterator.ensures.into_iter_gives.1 ∙ c.args.kept.ok.0) in
    let turn = YieldsList-turn all c.loop-item.yielded c.loop-item.item-iterator c.loop-item.yielded_by c.next.result c.next.new.self c.in-Some.item c.in-Some.is c.next.ensures.steps in
    let inside = inside_at c.args.slots.now.len c.args.kept.items (length c.loop-item.yielded) c.in-Some.item c.requires turn.0 turn.1 in
    let same : length c.loop-item.slots.items ≡ length c.args.slots.now.items = ap length c.loop-item.invariant ∙ filled_length c.args.slots.now.items c.loop-item.yielded in
    omega (arith, inside, same, c.loop-item.slots.ok.0, c.args.slots.now.ok.0)

pub loop-item-preserved : goal.loop-item-preserved
loop-item-preserved g c =
    c.keep.ensures ∙ (ap (λ l. slice_set l c.in-Some.item.place (Some c.in-Some.item.work)) c.loop-item.invariant ∙ sym (filled_append c.args.slots.now.items c.loop-item.yielded (c.in-Some.item ∷ [])))
