use Rattle.std.proofs.Common.{◌≡◌, ◌+◌, [], drop}
use Rattle.sc_node_table.specs.Pump.{pumped_from}
use Rattle.sc_node_replica.proofs.replica.Replica.pump_from.Given as goal

-- the slots that are left make the whole; and where the whole leaves all as it is, all is as it was, and what is left leaves it so
abbrev pub invariant-loop-i : goal.invariant-loop-i
invariant-loop-i l = record {
  same : l.self.sets ≡ l.fn.self.sets;
  left : pumped_from (l.first + l.i) (drop l.i l.fn.self.sets) (l.self, l.out) ≡ pumped_from l.first l.fn.self.sets (l.fn.self, l.fn.out);
  idle : pumped_from l.first l.fn.self.sets (l.fn.self, []) ≡ (l.fn.self, []) → (l.self ≡ l.fn.self) × (pumped_from (l.first + l.i) (drop l.i l.fn.self.sets) (l.fn.self, []) ≡ (l.fn.self, []));
}
