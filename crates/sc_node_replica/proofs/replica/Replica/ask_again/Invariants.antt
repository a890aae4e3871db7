use Rattle.std.proofs.Common.{◌≡◌, ◌+◌, [], drop}
use Rattle.sc_node_table.specs.Replica.{next}
use Rattle.sc_node_table.specs.Rows.{asked_again}
use Rattle.sc_node_replica.proofs.replica.Replica.ask_again.Given as goal

-- what is left makes the whole; and where the whole makes no mail, neither does what is left
abbrev pub invariant-loop-i : goal.invariant-loop-i
invariant-loop-i l = record {
  left : asked_again l.self (next l.self + l.i) (drop l.i l.self.sets) l.out ≡ asked_again l.self (next l.self) l.self.sets l.initial.out;
  none : asked_again l.self (next l.self) l.self.sets [] ≡ [] → asked_again l.self (next l.self + l.i) (drop l.i l.self.sets) [] ≡ [];
}
