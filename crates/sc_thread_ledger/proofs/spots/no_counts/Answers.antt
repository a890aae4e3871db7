use Rattle.std.proofs.Common.{subst, sym, []}
use Rattle.sc_thread_ledger.specs.LedgerDefinitions.{AreCounted}
use Rattle.sc_thread_ledger.proofs.Counted.{counted_none}
use Rattle.sc_thread_ledger.proofs.spots.no_counts.Goals as goal

pub returns : goal.returns
returns c = subst (λ l. AreCounted l []) (sym c.loop-i.invariant) (counted_none c.loop-i.i)
