use Rattle.std.proofs.Common.{ℕ, ◌<◌, slice_index_or}
use Rattle.sc_thread_ports.specs.exchange.Ports.{Looked}
use Rattle.sc_thread_workers.specs.Crews.{Still, HasMet, IsAhead}
use Rattle.sc_thread_workers.proofs.ChangedLists.{AllBelow, IsLeft}
use Rattle.sc_thread_workers.proofs.meetings.meet_all.Given as goal

-- the shells before the index have met the port, and the others are as they were
abbrev pub invariant-loop-shell : goal.invariant-loop-shell
invariant-loop-shell g l = record {
  net : Looked l.initial.net l.net;
  done : AllBelow Still l.initial.shells l.shells l.shell-index;
  met : (k : ℕ) (d : _) → k < l.shell-index → HasMet l.net (slice_index_or l.shells k d);
  ahead : (k : ℕ) (d : _) → k < l.shell-index → IsAhead l.initial.net (slice_index_or l.shells k d);
  left : IsLeft l.initial.shells l.shells l.shell-index;
}
