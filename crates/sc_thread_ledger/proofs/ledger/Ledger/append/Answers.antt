use Rattle.std.proofs.Common.{rules, ◌<◌, subst, sym}
use Rattle.sc_thread_ledger.proofs.Kept.{few_sent}
use Rattle.sc_thread_ledger.proofs.ledger.Ledger.append.Goals as goal

pub make_room-requires : goal.make_room-requires
make_room-requires g c =
    subst (λ n. n < 1099511627776) (sym c.len.ensures) (few_sent g.M.Parcel.weighs c.args.row.sent c.args.self.now.bytes c.bytes_with-bytes.result c.args.limit (search rules) (search rules) c.requires)
