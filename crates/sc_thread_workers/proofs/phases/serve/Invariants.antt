use Rattle.sc_thread_workers.specs.Crews.{MadeRows}
use Rattle.sc_thread_workers.proofs.phases.serve.Given as goal

-- each turn so far made a row
abbrev pub invariant-loop-did : goal.invariant-loop-did
invariant-loop-did g l = MadeRows l.did l.fn.shell l.shell
