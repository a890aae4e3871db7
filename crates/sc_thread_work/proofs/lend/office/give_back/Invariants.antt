use Rattle.std.proofs.Common.{◌≡◌}
use Rattle.crossbeam_queue.specs.Passes.{view, IsPassOf}
use Rattle.sc_thread_work.proofs.lend.office.give_back.Given as goal

-- it was not given back yet
abbrev pub invariant-loop : goal.invariant-loop
invariant-loop g l = record {
  pass : IsPassOf l.bench l.pass;
  same : view l.pass ≡ view l.initial.pass;
  next : l.next ≡ l.fn.loan;
}
