use Rattle.std.proofs.Common.{◌≡◌, ◌++◌, take, drop}
use Rattle.sc_node_table.specs.Node.{with_new}
use Rattle.sc_node.proofs.arrivals.put_new.Given as goal

-- the replicas so far stand before it
abbrev pub invariant-loop-i : goal.invariant-loop-i
invariant-loop-i l = record {
  same : l.replicas.items ≡ l.fn.replicas.items;
  passed : take l.i l.replicas.items ++ with_new l.made (drop l.i l.replicas.items) ≡ with_new l.made l.fn.replicas.items;
}
