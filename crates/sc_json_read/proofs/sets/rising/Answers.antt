use Rattle.std.proofs.Common.{sym, ◌∙◌}
use Rattle.sc_json_read.proofs.Risen.{falls, given}
use Rattle.sc_json_read.proofs.sets.rising.Goals as goal

pub returns-then-not-ends_below-clause-finds : goal.returns-then-not-ends_below-clause-finds
returns-then-not-ends_below-clause-finds g c rises =
    let start = c.into_iter-key-iterator.ensures.into_iter_gives.0 in
    let whole = given c.into_iter-key-iterator.result c.loop-key.key-iterator c.loop-key.yielded c.loop-key.yielded_by in
    let test = c.if-not-ends_below.true in
    let next = c.in-Some.ensures.steps.0 in
    absurd (falls g.K.Ord.cmp c.loop-key.yielded c.loop-key.list c.args.entries.items (c.in-Some.key, c.in-Some.value) c.next.new.self.rest.items c.loop-key.key-iterator.rest.items c.ends_below.result (sym start ∙ whole) next c.loop-key.invariant.2 c.ends_below.ensures.1 test rises)
