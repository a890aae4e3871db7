use Rattle.std.proofs.Common.{◌≡◌, map}
use Rattle.sc_thread_drive.proofs.Closed.{Ending}
use Rattle.sc_thread_drive.proofs.end.close_ports.Given as goal

-- the ports so far were joined, and their actors are in order
abbrev pub invariant-loop-shell : goal.invariant-loop-shell
invariant-loop-shell g l = record {
  ending : Ending l.fn.net l.all l.yielded;
  actors : l.actors ≡ map (λ s. s.actor) l.yielded;
}
