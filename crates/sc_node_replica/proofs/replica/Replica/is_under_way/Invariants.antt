use Rattle.std.proofs.Common.{◌≡◌}
use Rattle.std.specs.List.{list_any}
use Rattle.sc_node_table.specs.Replica.{under_way}
use Rattle.sc_node_table.specs.Acts.{is_of_kind}
use Rattle.sc_node_replica.proofs.Rounds.{left_from}
use Rattle.sc_node_replica.proofs.replica.Replica.is_under_way.Given as goal

-- none so far
abbrev pub invariant-loop-i : goal.invariant-loop-i
invariant-loop-i l = list_any (is_of_kind l.act) (left_from l.self l.i) ≡ list_any (is_of_kind l.act) (under_way l.self)
