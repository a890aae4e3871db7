use Rattle.std.proofs.Common.{◌∙◌, refl, ap, arith}
use Rattle.sc_actor.specs.Definitions.{numbers}
use Rattle.sc_thread_ledger.specs.LedgerDefinitions.{counts_for, copies_for, picked_spot, spots_from, spots_of}
use Rattle.sc_thread_ledger.proofs.Kept.{few_mails}
use Rattle.sc_thread_ledger.proofs.Spotting.{look_spots, look_each}
use Rattle.sc_thread_ledger.proofs.ledger.Ledger.glance.Goals as goal

pub overflow_cast-sent : goal.overflow_cast-sent
overflow_cast-sent g c = let s = c.args.self.now in
    omega (arith, few_mails g.M.Parcel.weighs g.M.Parcel.receiver s.rows.items s.bytes 1073741824 s.counted s.small (omega arith) s.receivers.items s.sent_to)

pub returns-clause-spot : goal.returns-clause-spot
returns-clause-spot g c = let s = c.args.self.now in
    let all = numbers (counts_for c.args.actors s.crashed.items 0) 1 s.receivers.items s.counts.items in
    c.in_ok-spot.ensures.spot
    ∙ ap (λ l. picked_spot (copies_for c.args.whos.now l) c.args.word)
    (look_spots g.M.Parcel.receiver c.args.actors s.rows.items s.receivers.items s.counts.items s.crashed.items all (spots_from s.receivers.items all) s.sent_to s.under_way s.gone refl refl)

pub returns-clause-each : goal.returns-clause-each
returns-clause-each g c = look_each g.M.Parcel.receiver c.args.actors c.args.self.now.rows.items (spots_of g.M.Parcel.receiver c.args.actors c.args.self.now.rows.items) refl
