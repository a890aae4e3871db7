use Rattle.std.proofs.Common.{◌≡◌, ◌≤◌, sum_by, take}
use Rattle.sc_thread_workers.specs.Crews.{did}
use Rattle.sc_thread_workers.proofs.turns.did_in.Given as goal

abbrev pub invariant-loop-shell : goal.invariant-loop-shell
invariant-loop-shell g l = (l.did ≡ sum_by did (take l.shell-index l.shells)) × (l.did ≤ l.shell-index)
