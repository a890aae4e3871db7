use Rattle.std.proofs.Common.{arith, sym, ◌∙◌, ◌-◌}
use Rattle.sc_thread_ledger.specs.LedgerDefinitions.{runs}
use Rattle.sc_actor.proofs.Lemmas.{get_at}
use Rattle.sc_thread_ledger.proofs.Open.{repeat_here}
use Rattle.sc_thread_ledger.proofs.ledger.Ledger.may_repeat.Goals as goal

pub returns : goal.returns
returns g c = let s = c.args.self.now in
    c.runs.ensures
    ∙ ((λ i. runs c.args.actors (c.as_slice.ensures.value i) ((c.index.ensures ∙ sym (get_at s.receivers.items (c.args.number - 1) c.index.result.now (omega arith))) i))
    ∙ repeat_here g.M.Parcel.receiver c.args.actors s.rows.items c.args.number s.receivers.items s.crashed.items s.sent_to s.gone (omega arith) (omega arith))
