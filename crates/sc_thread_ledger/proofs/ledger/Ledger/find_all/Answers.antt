use Rattle.std.proofs.Common.{◌<◌, length, subst, sym, ◌∙◌, arith, Result, Ok, Err, IfOk, List, ℕ, ◌≡◌}
use Rattle.sc_thread_ledger.proofs.Kept.{few_mails}
use Rattle.sc_thread_ledger.proofs.Holding.{held, queue_all}
use Rattle.sc_thread_ledger.proofs.ledger.Ledger.find_all.Goals as goal

-- what was found, under another name
ok_same : {T : Type 0} {E : Type 0} (f : T → List ℕ) {xs ys : List ℕ} (r : Result T E) → xs ≡ ys → IfOk r (λ t. f t ≡ xs) → IfOk r (λ t. f t ≡ ys)
ok_same f (Ok t) e p = p ∙ e
ok_same f (Err x) e p = tt

pub returns-then-actors-self : goal.returns-then-actors-self
returns-then-actors-self g c = let s = c.args.self.now in
    let h = held s.queues c.in-Some.queues s.actors s.crashed.items s.receivers.items s.counts.items c.in-Some.is s.queued in
    ok_same (λ found. found.items) c.numbers.result (queue_all c.in-Some.queues s.actors s.crashed.items s.receivers.items s.counts.items h c.args.actors c.if-actors-self.true) c.numbers.ensures

pub open_numbers-requires : goal.open_numbers-requires
open_numbers-requires g c = let s = c.args.self.now in record {
  few = subst (λ l. length l < 4294967295) (sym c.as_slice.ensures.value)
      (few_mails g.M.Parcel.weighs g.M.Parcel.receiver s.rows.items s.bytes 1073741824 s.counted s.small (omega arith) s.receivers.items s.sent_to);
}
