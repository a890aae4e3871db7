use Rattle.std.proofs.Common.{ap, sym, ◌∙◌, nat_lt, get_or, ◌-◌}
use Rattle.sc_thread_ledger.proofs.Open.{pending_then, pending_else}
use Rattle.sc_thread_ledger.proofs.ledger.Ledger.is_pending.Goals as goal

pub returns-then-may_repeat : goal.returns-then-may_repeat
returns-then-may_repeat g c = let s = c.args.self.now in
    pending_then g.M.Parcel.receiver c.args.actors s.rows.items c.args.number c.has_copy.result s.counts.items s.under_way (c.has_copy.ensures ∙ ap (λ l. nat_lt 0 (get_or l (c.args.number - 1) 0)) c.as_slice.ensures.value) (sym c.may_repeat.ensures ∙ c.if-may_repeat.true)

pub returns-else-may_repeat : goal.returns-else-may_repeat
returns-else-may_repeat g c = let s = c.args.self.now in
    pending_else g.M.Parcel.receiver c.args.actors s.rows.items c.args.number c.may_repeat.result c.may_repeat.ensures c.if-may_repeat.false
