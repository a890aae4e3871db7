use Rattle.sc_thread_ledger.proofs.Open.{kth_is, kth_sent}
use Rattle.sc_thread_ledger.proofs.ledger.Ledger.kth.Goals as goal

pub returns-clause-kth : goal.returns-clause-kth
returns-clause-kth g c = let s = c.args.self.now in
    kth_is g.M.Parcel.receiver c.args.actors s.rows.items c.args.who c.args.k c.find.result s.crashed.items s.receivers.items s.counts.items c.find.ensures s.gone s.sent_to s.under_way

pub returns-clause-sent : goal.returns-clause-sent
returns-clause-sent g c = let s = c.args.self.now in
    kth_sent g.M.Parcel.receiver c.args.actors s.rows.items c.args.who c.args.k c.find.result
    (kth_is g.M.Parcel.receiver c.args.actors s.rows.items c.args.who c.args.k c.find.result s.crashed.items s.receivers.items s.counts.items c.find.ensures s.gone s.sent_to s.under_way)
