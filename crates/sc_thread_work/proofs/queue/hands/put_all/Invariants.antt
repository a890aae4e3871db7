use Rattle.std.proofs.Common.{◌≡◌, true, [], length}
use Rattle.crossbeam_queue.specs.Passes.{view, IsPassOf}
use Rattle.sc_thread_work.specs.queue.QueueDefinitions.{all_parts, hand, numbered}
use Rattle.sc_thread_work.proofs.queue.hands.put_all.Given as goal

-- those so far were put
abbrev pub invariant-loop-work : goal.invariant-loop-work
invariant-loop-work g l = record {
  pass : IsPassOf l.bench l.pass;
  put : view l.pass ≡ hand all_parts true (numbered 0 l.yielded) [] 0;
  next : l.place ≡ length l.yielded;
}
