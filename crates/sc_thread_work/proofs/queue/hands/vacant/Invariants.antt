use Rattle.std.proofs.Common.{◌≡◌, vec_len}
use Rattle.sc_thread_work.specs.queue.QueueDefinitions.{AllFree}
use Rattle.sc_thread_work.proofs.queue.hands.vacant.Given as goal

abbrev pub invariant-loop : goal.invariant-loop
invariant-loop g l = record {
  len : vec_len l.slots ≡ l.counter;
  free : AllFree l.slots.items;
}
