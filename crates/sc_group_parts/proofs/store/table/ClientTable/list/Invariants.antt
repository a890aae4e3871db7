use Rattle.std.proofs.Common.{◌≡◌, map}
use Rattle.std.specs.Map.Iter.{deref_pair}
use Rattle.sc_group_parts.proofs.store.table.ClientTable.list.Given as goal

-- the entries so far
abbrev pub invariant-loop-client : goal.invariant-loop-client
invariant-loop-client l = l.list ≡ map deref_pair l.yielded
