use Rattle.std.proofs.Common.{◌≡◌, take, map, is_some}
use Rattle.sc_thread_ledger.specs.LedgerDefinitions.{kth_pending}
use Rattle.sc_thread_ports.proofs.exchange.turns.waiting_in.Given as goal

abbrev pub invariant-loop-who : goal.invariant-loop-who
invariant-loop-who g l = l.waits.items ≡ map (λ who. is_some (kth_pending g.M.Parcel.receiver l.actors l.ledger.rows.items who 1)) (take l.who-index l.whos)
