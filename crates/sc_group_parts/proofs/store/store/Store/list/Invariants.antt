use Rattle.std.proofs.Common.{◌≡◌, map}
use Rattle.std.specs.Map.Iter.{deref_pair}
use Rattle.sc_group_parts.proofs.store.store.Store.list.Given as goal

-- the pairs so far
abbrev pub invariant-loop-key : goal.invariant-loop-key
invariant-loop-key l = l.pairs ≡ map deref_pair l.yielded
