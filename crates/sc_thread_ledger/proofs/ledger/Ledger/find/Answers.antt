use Rattle.std.proofs.Common.{◌<◌, length, subst, sym, arith}
use Rattle.sc_thread_ledger.proofs.Kept.{few_mails}
use Rattle.sc_thread_ledger.proofs.Holding.{held, queue_kth}
use Rattle.sc_thread_ledger.proofs.ledger.Ledger.find.Goals as goal

pub returns-then-who-actors : goal.returns-then-who-actors
returns-then-who-actors g c = let s = c.args.self.now in
    queue_kth c.in-Some.queues s.actors s.crashed.items s.receivers.items s.counts.items (held s.queues c.in-Some.queues s.actors s.crashed.items s.receivers.items s.counts.items c.in-Some.is s.queued)
    c.args.who c.args.k c.args.actors c.kth.result c.if-actors-self.true c.if-who-actors.true c.kth.ensures

pub kth_open-requires-clause-few : goal.kth_open-requires-clause-few
kth_open-requires-clause-few g c = let s = c.args.self.now in
    subst (λ l. length l < 4294967295) (sym c.as_slice.ensures.value)
    (few_mails g.M.Parcel.weighs g.M.Parcel.receiver s.rows.items s.bytes 1073741824 s.counted s.small (omega arith) s.receivers.items s.sent_to)
