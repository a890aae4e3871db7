use Rattle.std.proofs.Common.{ℕ, ◌≡◌, ◌+◌, ap, subst, arith, length, length-append, [], ◌∷◌, ◌++◌}
use Rattle.crossbeam_queue.specs.Passes.{view}
use Rattle.sc_thread_work.specs.queue.QueueDefinitions.{Gathers}
use Rattle.sc_thread_work.proofs.queue.hands.gather.Goals as goal

pub loop-done-preserved : goal.loop-done-preserved
loop-done-preserved g c =
    let before = c.requires.before in
    let inv = c.loop-done.invariant in
    let next = c.in_ok-gather_one.ensures.more in
    let now = next (before.0 + length c.loop-done.yielded) (before.1 + length c.loop-done.yielded) before.2 (inv.more before.0 before.1 before.2 before.3) in
    let parts : (view c.gather_one.new.pass).parts ≡ before.0 + length c.loop-done.yielded + 1 = ap (λ v. v.parts) now.view_is in record {
      pass = c.in_ok-gather_one.ensures.pass;
      part = omega (arith, parts);
      more = λ n m put a.
          (let more : (k : ℕ) → k + length c.loop-done.yielded + 1 ≡ k + length (c.loop-done.yielded ++ c.in-Some.done ∷ []) = λ k. omega (arith, length-append c.loop-done.yielded (c.in-Some.done ∷ [])) in
          subst (λ k. Gathers g.F.Fn c.args.f.now k (m + length (c.loop-done.yielded ++ c.in-Some.done ∷ [])) put (view c.gather_one.new.pass) c.gather_one.new.kept.items) (more n)
          (subst (λ k. Gathers g.F.Fn c.args.f.now (n + length c.loop-done.yielded + 1) k put (view c.gather_one.new.pass) c.gather_one.new.kept.items) (more m) (next (n + length c.loop-done.yielded) (m + length c.loop-done.yielded) put (inv.more n m put a))));
    }
