use Rattle.std.proofs.Common.{◌≡◌}
use Rattle.sc_thread_work.specs.queue.QueueDefinitions.{filled}
use Rattle.sc_thread_work.proofs.queue.hands.fill.Given as goal

-- those so far stand in their places
abbrev pub invariant-loop-item : goal.invariant-loop-item
invariant-loop-item g l = l.slots.items ≡ filled l.fn.slots.items l.yielded
