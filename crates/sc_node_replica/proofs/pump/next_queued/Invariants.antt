use Rattle.std.proofs.Common.{◌≡◌, [], length}
use Rattle.sc_node_table.specs.Pump.{next_queued}
use Rattle.sc_node_replica.proofs.pump.next_queued.Given as goal

-- what is left makes the whole; and where the whole makes no mail, neither does what is left
abbrev pub invariant-loop-alloc : goal.invariant-loop-alloc
invariant-loop-alloc l = record {
  left : next_queued l.me l.idle l.core l.backlog.items l.out ≡ next_queued l.me l.idle l.core l.fn.backlog.items l.fn.out;
  none : (next_queued l.me l.idle l.core l.fn.backlog.items []).2 ≡ [] → (next_queued l.me l.idle l.core l.backlog.items []).2 ≡ [];
}

-- how many calls are left
abbrev pub decreases-loop-alloc : goal.decreases-loop-alloc
decreases-loop-alloc l = length l.backlog.items
