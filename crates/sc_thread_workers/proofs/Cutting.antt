-- How many runs are lent.
use Rattle.std.proofs.Common.{◌≡◌, ℕ, zero, suc, ◌+◌, ◌*◌, ◌<◌, ◌≤◌, arith}

-- one more is lent than of those before
pub few_lent : (runs cut size old sent new : ℕ) → 0 < cut → cut ≤ size * runs → ((k : ℕ) → cut ≤ size * (k + 1) → new ≤ sent + k) → sent ≤ old + 1 → new ≤ old + runs
few_lent zero cut size old sent new some fits rest one = absurd (omega (arith, some, fits, none size))
  where
    none : (n : ℕ) → n * 0 ≡ 0
    none n = grind arith
few_lent (suc k) cut size old sent new some fits rest one =
    let last = rest k (omega (arith, fits, same size k)) in omega (arith, last, one)
  where
    same : (n k : ℕ) → n * suc k ≡ n * (k + 1)
    same n k = grind arith
