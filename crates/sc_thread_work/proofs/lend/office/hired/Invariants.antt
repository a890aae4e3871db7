use Rattle.std.proofs.Common.{◌≡◌, vec_len, All}
use Rattle.crossbeam_queue.specs.Passes.{view, IsPassOf}
use Rattle.sc_thread_work.proofs.lend.office.hired.Given as goal

-- the number of passes made so far
abbrev pub invariant-loop : goal.invariant-loop
invariant-loop g l = record {
  pass : IsPassOf l.bench l.pass;
  same : view l.pass ≡ view l.fn.pass;
  len : vec_len l.passes ≡ l.counter;
  each : All (λ p. IsPassOf l.bench p) l.passes.items;
}
