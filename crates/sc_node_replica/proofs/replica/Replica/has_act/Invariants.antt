use Rattle.std.proofs.Common.{◌≡◌}
use Rattle.std.specs.List.{list_any}
use Rattle.sc_node_table.specs.Replica.{under_way}
use Rattle.sc_node_table.specs.Pump.{is_act}
use Rattle.sc_node_replica.proofs.Rounds.{left_from}
use Rattle.sc_node_replica.proofs.replica.Replica.has_act.Given as goal

-- none so far
abbrev pub invariant-loop-i : goal.invariant-loop-i
invariant-loop-i l = list_any is_act (left_from l.self l.i) ≡ list_any is_act (under_way l.self)
