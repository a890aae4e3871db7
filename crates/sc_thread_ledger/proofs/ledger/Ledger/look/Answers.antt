use Rattle.std.proofs.Common.{◌∙◌, ap, length, arith}
use Rattle.sc_thread_ledger.specs.LedgerDefinitions.{spots_from}
use Rattle.sc_thread_ledger.proofs.Kept.{few_mails}
use Rattle.sc_thread_ledger.proofs.Spotting.{look_spots, look_each}
use Rattle.sc_thread_ledger.proofs.ledger.Ledger.look.Goals as goal

pub overflow_cast-sent : goal.overflow_cast-sent
overflow_cast-sent g c = let s = c.args.self.now in
    omega (arith, few_mails g.M.Parcel.weighs g.M.Parcel.receiver s.rows.items s.bytes 1073741824 s.counted s.small (omega arith) s.receivers.items s.sent_to, ap length c.as_slice-receivers.ensures.value)

pub returns-clause-spots : goal.returns-clause-spots
returns-clause-spots g c = let s = c.args.self.now in
    look_spots g.M.Parcel.receiver c.args.actors s.rows.items s.receivers.items s.counts.items s.crashed.items c.as_slice.result.now c.in_ok-pending.pending
    s.sent_to s.under_way s.gone (c.as_slice.ensures.value ∙ c.in_ok-numbers.ensures) (c.in_ok-pending.ensures ∙ ap (λ l. spots_from l c.as_slice.result.now) c.as_slice-receivers.ensures.value)

pub returns-clause-each : goal.returns-clause-each
returns-clause-each g c = look_each g.M.Parcel.receiver c.args.actors c.args.self.now.rows.items c.in_ok-pending.pending (returns-clause-spots g c)
