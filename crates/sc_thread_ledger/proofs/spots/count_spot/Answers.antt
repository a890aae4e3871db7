use Rattle.std.proofs.Common.{arith}
use Rattle.sc_thread_ledger.proofs.Counted.{counted_in, counted_out}
use Rattle.sc_thread_ledger.proofs.spots.count_spot.Goals as goal

pub returns-then-place-len : goal.returns-then-place-len
returns-then-place-len c = λ before are next. counted_in c.args.counts.now.items before c.args.spot are next (omega arith)

pub returns-else-place-len : goal.returns-else-place-len
returns-else-place-len c = λ before are next. counted_out c.args.counts.now.items before c.args.spot are (λ lt. omega arith)
