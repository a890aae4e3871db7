use Rattle.std.proofs.Common.{◌<◌, length, subst, sym}
use Rattle.sc_actor.specs.Definitions.{mails}
use Rattle.sc_thread_ledger.proofs.Kept.{mails_few}
use Rattle.sc_thread_ledger.proofs.ledger.Ledger.kth_by_scan.Goals as goal

pub kth_after-requires-clause-rows : goal.kth_after-requires-clause-rows
kth_after-requires-clause-rows g c = let s = c.args.self.now in
    subst (λ l. length l < 4294967295) (sym c.as_slice.ensures.value) (mails_few g.M.Parcel.weighs s.rows.items s.bytes s.counted s.small).0

pub kth_after-requires-clause-mails : goal.kth_after-requires-clause-mails
kth_after-requires-clause-mails g c = let s = c.args.self.now in
    subst (λ l. length (mails l) < 4294967295) (sym c.as_slice.ensures.value) (mails_few g.M.Parcel.weighs s.rows.items s.bytes s.counted s.small).1
