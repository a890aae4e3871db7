use Rattle.std.proofs.Common.{◌≡◌, ◌+◌, ◌++◌, ◌<◌, length, cond, drop, sym, ◌∙◌, ap, subst, arith}
use Rattle.sc_actor.specs.Mail.{is_for, numbers, pending}
use Rattle.sc_actor.specs.System.{numbers_of}
use Rattle.sc_world_replay.proofs.Looks.{as_many, found_next, read_any}
use Rattle.sc_world_replay.proofs.looking.pending_of.Goals as goal

pub index-requires-in-loop-i : goal.index-requires-in-loop-i
index-requires-in-loop-i g c =
    let many = as_many c.args.rows.now c.in_ok-sent.sent.items c.in_ok-counts.counts.items c.in_ok-sent.ensures.mails c.in_ok-counts.ensures.counts in
    omega (arith, many, c.in_ok-counts.counts.ok.0, c.in_ok-sent.sent.ok.0, c.loop-i-test.true, c.len-i-end.ensures)

pub loop-i-preserved : goal.loop-i-preserved
loop-i-preserved g c =
    let many = as_many c.args.rows.now c.in_ok-sent.sent.items c.in_ok-counts.counts.items c.in_ok-sent.ensures.mails c.in_ok-counts.ensures.counts in
    let test = is_for g.M.Parcel.receiver (numbers_of c.args.seats.now) c.args.rows.now c.args.whose in
    let inside : c.loop-i.i < length c.in_ok-counts.counts.items = omega (arith, many, c.in_ok-counts.counts.ok.0, c.in_ok-sent.sent.ok.0, c.loop-i-test.true, c.len-i-end.ensures) in
    let count = read_any c.in_ok-counts.counts.items c.loop-i.i c.index-in-loop-i.result.now inside c.index-in-loop-i.ensures in
    subst (λ found. found ++ numbers test (c.loop-i.i + 1 + 1) (drop (c.loop-i.i + 1) c.in_ok-sent.sent.items) (drop (c.loop-i.i + 1) c.in_ok-counts.counts.items) ≡ pending g.M.Parcel.receiver (numbers_of c.args.seats.now) c.args.rows.now c.args.whose)
    (sym c.in_ok-add_number.ensures.found)
    (found_next test c.loop-i.found c.loop-i.i c.open_copies-times.result c.in_ok-sent.sent.items c.in_ok-counts.counts.items c.index.result.now (pending g.M.Parcel.receiver (numbers_of c.args.seats.now) c.args.rows.now c.args.whose)
    (omega (arith, c.in_ok-sent.sent.ok.0, c.loop-i-test.true, c.len-i-end.ensures))
    inside
    c.index.ensures (c.open_copies-times.ensures ∙ ap (λ n. cond (test c.index.result.now) n 0) count) c.loop-i.invariant)
