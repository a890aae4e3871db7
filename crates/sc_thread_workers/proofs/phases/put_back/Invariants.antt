use Rattle.std.proofs.Common.{◌≡◌}
use Rattle.sc_thread_workers.specs.Phases.{shells_of, rows_of_all}
use Rattle.sc_thread_workers.proofs.phases.put_back.Given as goal

-- those so far are back, and their rows are counted
abbrev pub invariant-loop-one : goal.invariant-loop-one
invariant-loop-one g l = record {
  shells : l.shells.items ≡ shells_of l.yielded;
  did : l.did ≡ rows_of_all l.yielded;
}
