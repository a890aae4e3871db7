use Rattle.std.proofs.Common.{◌≡◌, map, Some}
use Rattle.sc_thread_work.proofs.queue.hands.unwrapped.Given as goal

abbrev pub invariant-loop-slot : goal.invariant-loop-slot
invariant-loop-slot g l = map (λ x. Some x) l.all.items ≡ l.yielded
