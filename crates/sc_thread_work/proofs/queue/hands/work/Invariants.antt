use Rattle.crossbeam_queue.specs.Passes.{view, IsPassOf}
use Rattle.sc_thread_work.specs.queue.QueueDefinitions.{Did}
use Rattle.sc_thread_work.proofs.queue.hands.work.Given as goal

-- what was taken so far was worked
abbrev pub invariant-loop : goal.invariant-loop
invariant-loop g l = record {
  pass : IsPassOf l.bench l.pass;
  did : Did g.F.Fn l.f (view l.fn.pass) (view l.pass) l.kept.items;
}
