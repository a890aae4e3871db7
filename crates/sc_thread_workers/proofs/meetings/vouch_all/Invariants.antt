use Rattle.std.proofs.Common.{ℕ, ◌<◌, ◌≡◌, slice_index_or}
use Rattle.sc_thread_ports.specs.exchange.Ports.{Looked, seen}
use Rattle.sc_thread_workers.specs.Crews.{Still, IsOver}
use Rattle.sc_thread_workers.proofs.ChangedLists.{AllBelow, IsLeft}
use Rattle.sc_thread_workers.proofs.meetings.vouch_all.Given as goal

-- the shells before the index have vouched for what the port has seen, and the others are as they were
abbrev pub invariant-loop-shell : goal.invariant-loop-shell
invariant-loop-shell g l = record {
  net : Looked l.initial.net l.net;
  same : seen l.net ≡ seen l.initial.net;
  done : AllBelow Still l.initial.shells l.shells l.shell-index;
  over : (k : ℕ) (d : _) → k < l.shell-index → IsOver l.net (slice_index_or l.shells k d);
  left : IsLeft l.initial.shells l.shells l.shell-index;
}
