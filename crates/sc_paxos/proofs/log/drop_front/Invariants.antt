use Rattle.std.proofs.Common.{◌≡◌, drop}
use Rattle.sc_paxos.proofs.log.drop_front.Given as goal

abbrev pub invariant-loop-gone : goal.invariant-loop-gone
invariant-loop-gone g l = l.entries.items ≡ drop l._gone l.initial.entries.items
