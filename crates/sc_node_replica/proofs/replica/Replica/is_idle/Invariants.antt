use Rattle.std.proofs.Common.{◌≡◌}
use Rattle.sc_node_table.specs.Replica.{under_way}
use Rattle.sc_node_replica.proofs.Rounds.{left_from}
use Rattle.sc_node_replica.proofs.replica.Replica.is_idle.Given as goal

-- nothing is under way so far
abbrev pub invariant-loop-i : goal.invariant-loop-i
invariant-loop-i l = left_from l.self l.i ≡ under_way l.self
