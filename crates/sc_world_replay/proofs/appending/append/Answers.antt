use Rattle.std.proofs.Common.{◌≡◌, ◌+◌, ◌++◌, length, replicate, ◌∙◌, ap, refl, arith}
use Rattle.sc_actor.specs.Mail.{mails}
use Rattle.sc_actor.specs.System.{numbers_of}
use Rattle.sc_world_replay.specs.Opens.{opened, opens, runs}
use Rattle.sc_world_replay.proofs.KeptStage.{kept-next}
use Rattle.sc_world_replay.proofs.appending.append.Goals as goal

pub returns-clause-kept : goal.returns-clause-kept
returns-clause-kept g c =
    let receiver = g.M.Parcel.receiver in
    let old = c.args.stage.now in
    let row = c.args.row in
    let middle = c.note_event.new.pending.items in
    let many : length old.mails.items ≡ length (mails old.rows) = ap length c.requires.kept.all_mails in
    kept-next receiver old _ row c.requires.kept
    c.in_ok-push.ensures.ok
    refl
    (c.in_ok-add_mails.ensures.mails ∙ ap (λ ms. old.mails.items ++ ms) c.as_slice-2.ensures)
    c.in_ok-note_go.ensures.started
    c.in_ok-note_crash.ensures.crashed
    (c.len.result + 1)
    (omega (arith, c.len.ensures, old.mails.ok.0, many))
    middle
    (c.in_ok-note_event.ensures.pending
    ∙ ap (λ seats. opened receiver (runs (numbers_of seats) c.deref-2.result.now) c.deref-3.result.now old.pending.items row.who row.event) c.deref.ensures.value
    ∙ ap (λ crashed. opened receiver (runs (numbers_of old.seats.items) crashed) c.deref-3.result.now old.pending.items row.who row.event) c.deref-2.ensures.value
    ∙ ap (λ ms. opened receiver (runs (numbers_of old.seats.items) old.crashed.items) ms old.pending.items row.who row.event) c.deref-3.ensures.value)
    (c.in_ok-add_open.ensures.pending
    ∙ ap (λ seats. middle ++ opens receiver (runs (numbers_of seats) c.deref-5.result.now) (c.len.result + 1) c.as_slice.result.now (replicate (length c.as_slice.result.now) 1)) c.deref-4.ensures.value
    ∙ ap (λ crashed. middle ++ opens receiver (runs (numbers_of old.seats.items) crashed) (c.len.result + 1) c.as_slice.result.now (replicate (length c.as_slice.result.now) 1)) c.deref-5.ensures.value
    ∙ ap (λ ms. middle ++ opens receiver (runs (numbers_of old.seats.items) c.note_crash.new.crashed.items) (c.len.result + 1) ms (replicate (length ms) 1)) c.as_slice.ensures)
    c.requires.rows
    c.requires.mails
