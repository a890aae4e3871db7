use Rattle.std.proofs.Common.{◌≡◌, []}
use Rattle.sc_node_table.specs.Replica.{name_of, under_way}
use Rattle.sc_node_table.specs.Mails.{answered_all}
use Rattle.sc_node_replica.proofs.Rounds.{left_from}
use Rattle.sc_node_replica.proofs.replica.Replica.answer_under_way.Given as goal

-- what is left makes the whole; and where the whole makes no mail, neither does what is left
abbrev pub invariant-loop-i : goal.invariant-loop-i
invariant-loop-i l = record {
  left : answered_all l.self.me (name_of l.self) l.body (left_from l.self l.i) l.out ≡ answered_all l.self.me (name_of l.self) l.body (under_way l.self) l.initial.out;
  none : answered_all l.self.me (name_of l.self) l.body (under_way l.self) [] ≡ [] → answered_all l.self.me (name_of l.self) l.body (left_from l.self l.i) [] ≡ [];
}
