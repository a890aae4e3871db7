use Rattle.std.proofs.Common.{arith, sym, ap, ◌∙◌, ◌-◌, Some}
use Rattle.sc_actor.proofs.Lemmas.{get_at}
use Rattle.sc_thread_ledger.proofs.Open.{receiver_here}
use Rattle.sc_thread_ledger.proofs.ledger.Ledger.receiver.Goals as goal

pub returns : goal.returns
returns g c = let s = c.args.self.now in
    ap (λ n. Some n) (c.index.ensures ∙ sym (get_at s.receivers.items (c.args.number - 1) c.index.result.now (omega arith)))
    ∙ receiver_here g.M.Parcel.receiver 0 s.rows.items c.args.number s.receivers.items s.sent_to (omega arith) (omega arith)
