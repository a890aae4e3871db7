use Rattle.std.proofs.Common.{◌≡◌, [], map, replicate}
use Rattle.sc_thread_ledger.proofs.queues.Queues.new.Given as goal

abbrev pub invariant-loop-i : goal.invariant-loop-i
invariant-loop-i l = map (λ m. m.items) l.each.items ≡ replicate l.i []
