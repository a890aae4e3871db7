use Rattle.std.proofs.Common.{◌≡◌, ◌-◌, vec_len, All}
use Rattle.crossbeam_queue.specs.Passes.{view, IsPassOf}
use Rattle.sc_thread_work.specs.queue.QueueDefinitions.{all_parts, hand, taker}
use Rattle.sc_thread_work.proofs.queue.hands.cut.Given as goal

-- the number of passes made so far
abbrev pub invariant-loop : goal.invariant-loop
invariant-loop g l = record {
  pass : IsPassOf l.bench l.pass;
  left : view l.pass ≡ hand (all_parts - l.counter) (view l.fn.pass).puts (view l.fn.pass).put (view l.fn.pass).taken (view l.fn.pass).passes;
  len : vec_len l.passes ≡ l.counter;
  each : All (λ p. IsPassOf l.bench p × (view p ≡ taker)) l.passes.items;
}
