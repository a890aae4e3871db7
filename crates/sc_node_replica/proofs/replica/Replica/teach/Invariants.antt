use Rattle.std.proofs.Common.{◌≡◌, ◌-◌, []}
use Rattle.sc_node_table.specs.Rows.{taught}
use Rattle.sc_node_replica.proofs.replica.Replica.teach.Given as goal

-- what is left makes the whole; and where the whole makes no mail, neither does what is left
abbrev pub invariant-loop-sent : goal.invariant-loop-sent
invariant-loop-sent l = record {
  left : taught (l.most - l._sent) l.self l.from l.at l.out ≡ taught l.most l.self l.from l.slot l.initial.out;
  none : taught l.most l.self l.from l.slot [] ≡ [] → taught (l.most - l._sent) l.self l.from l.at [] ≡ [];
}
