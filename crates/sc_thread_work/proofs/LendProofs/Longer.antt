-- What one more loan leaves under the numbers of loans.
use Rattle.std.proofs.Common.{◌≡◌, ℕ, List, [], ◌∷◌, ◌++◌, length, subst, sym}
use Rattle.crossbeam_queue.proofs.Lists.{at_last, at_longer}
use Rattle.sc_thread_work.specs.lend.LendDefinitions.{IsLentUnder, IsLonger}

module _ {T : Type 0} (old new : List T) (work : T) (is : new ≡ old ++ work ∷ []) where
  -- what was lent before is lent under the same number
  pub lent_longer : IsLonger old new
  lent_longer number x e = subst (λ lent. IsLentUnder lent number x) (sym is) (at_longer old (work ∷ []) number x e)

  -- the new one is lent under the number of those before it
  pub lent_last : (number : ℕ) → number ≡ length old → IsLentUnder new number work
  lent_last number counted = subst (λ lent. IsLentUnder lent number work) (sym is) (at_last old work number (sym counted))
