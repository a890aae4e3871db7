use Rattle.std.proofs.Common.{rules}
use Rattle.sc_thread_ledger.proofs.Kept.{few_all}
use Rattle.sc_thread_ledger.proofs.ledger.Ledger.len.Goals as goal

pub returns-clause-few : goal.returns-clause-few
returns-clause-few g c = let s = c.args.self.now in few_all g.M.Parcel.weighs s.rows.items s.bytes c.len.result s.counted s.small (search rules)
