use Rattle.std.proofs.Common.{◌≡◌}
use Rattle.sc_json_read.proofs.sets.rising.Given as goal

abbrev pub invariant-loop-key : goal.invariant-loop-key
invariant-loop-key g l = (goal.iterator-loop-key g).can_next l.key-iterator × (goal.iterator-loop-key g).is_finite l.key-iterator × (l.list ≡ l.yielded)
