use Rattle.std.proofs.Common.{eqb, filter, map, sym, ◌∙◌, ap}
use Rattle.sc_actor.specs.Mail.{pending}
use Rattle.sc_actor.specs.System.{kth, numbers_of}
use Rattle.sc_world_replay.proofs.KeptStage.{pending-all, pending-for, known-some}
use Rattle.sc_world_replay.proofs.pending.waiting.Goals as goal

pub returns-in-None-clause-number : goal.returns-in-None-clause-number
returns-in-None-clause-number g c =
    let stage = c.args.stage.now in
    let receiver = g.M.Parcel.receiver in
    c.kth_of_all.ensures
    ∙ ap (λ xs. kth (map (λ copy. copy.number) xs) c.args.k) (c.deref.ensures.value ∙ c.requires.all_pending)
    ∙ ap (λ xs. kth xs c.args.k) (pending-all receiver (numbers_of stage.seats.items) stage.rows)
    ∙ ap (λ whose. kth (pending receiver (numbers_of stage.seats.items) stage.rows whose) c.args.k) (sym c.in-None.is)

pub returns-in-None-clause-mail : goal.returns-in-None-clause-mail
returns-in-None-clause-mail g c =
    let stage = c.args.stage.now in
    known-some g.M.Parcel.receiver (numbers_of stage.seats.items) stage.rows c.args.whose c.args.k c.kth_of_all.result stage.mails.items c.requires.all_mails (returns-in-None-clause-number g c)

pub returns-in-Some-clause-number : goal.returns-in-Some-clause-number
returns-in-Some-clause-number g c =
    let stage = c.args.stage.now in
    let receiver = g.M.Parcel.receiver in
    c.kth_for.ensures
    ∙ ap (λ xs. kth (map (λ copy. copy.number) (filter (λ copy. eqb copy.to c.in-Some.who) xs)) c.args.k) (c.deref-in-Some.ensures.value ∙ c.requires.all_pending)
    ∙ ap (λ xs. kth xs c.args.k) (pending-for receiver (numbers_of stage.seats.items) stage.rows c.in-Some.who)
    ∙ ap (λ whose. kth (pending receiver (numbers_of stage.seats.items) stage.rows whose) c.args.k) (sym c.in-Some.is)

pub returns-in-Some-clause-mail : goal.returns-in-Some-clause-mail
returns-in-Some-clause-mail g c =
    let stage = c.args.stage.now in
    known-some g.M.Parcel.receiver (numbers_of stage.seats.items) stage.rows c.args.whose c.args.k c.kth_for.result stage.mails.items c.requires.all_mails (returns-in-Some-clause-number g c)
