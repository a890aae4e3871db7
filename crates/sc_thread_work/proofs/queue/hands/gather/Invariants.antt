use Rattle.std.proofs.Common.{ℕ, ◌<◌, ◌+◌, List, length}
use Rattle.crossbeam_queue.specs.Passes.{view, IsPassOf}
use Rattle.sc_thread_work.specs.declared.queue.rule.Item.{Item}
use Rattle.sc_thread_work.specs.queue.QueueDefinitions.{Gathers}
use Rattle.sc_thread_work.proofs.queue.hands.gather.Given as goal

-- those so far were taken in
abbrev pub invariant-loop-done : goal.invariant-loop-done
invariant-loop-done g l = record {
  pass : IsPassOf l.bench l.pass;
  part : 0 < (view l.pass).parts;
  more : (parts passes : ℕ) (put : List (Item _)) → Gathers g.F.Fn l.f parts passes put (view l.fn.pass) l.fn.kept.items → Gathers g.F.Fn l.f (parts + length l.yielded) (passes + length l.yielded) put (view l.pass) l.kept.items;
}
