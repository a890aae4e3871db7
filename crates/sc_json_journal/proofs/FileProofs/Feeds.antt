-- The first byte that a search finds is the first that passes.
use Rattle.std.proofs.Common.{◌≡◌, ℕ, ◌+◌, ◌<◌, ◌≤◌, Bool, true, false, true≢false, ltb, cond, List, length, get_or, Option, Some, None, inl, inr, refl, sym, ◌∙◌, ap, arith}
use Rattle.std.specs.Prelude.{position}
use Rattle.std.specs.List.{position_or_len}
use Rattle.std.proofs.lemmas.Bool.{cases_Bool, cases_lt, both_ways, cond-true, lt-ltb}
use Rattle.std.proofs.lemmas.List.Quantifiers.{position-Some}
use Rattle.std.proofs.lemmas.List.Sums.{fails_before_first}
use Rattle.memchr.specs.Find.{IsFirstByte}

module _ (p : ℕ → Bool) (xs : List ℕ) where
  none_some : (i : ℕ) → None ≡ Some i → ⊥
  none_some i e = cc

  -- where none is found, none passes
  all_fail : position p xs ≡ None → (k : ℕ) → k < length xs → p (get_or xs k 0) ≡ false
  all_fail none k low = elim (cases_lt (position_or_len p xs) (length xs)) [
    | inl found ↦ absurd (none_some (position_or_len p xs) (sym none ∙ cond-true (ltb (position_or_len p xs) (length xs)) (Some (position_or_len p xs)) None (lt-ltb (position_or_len p xs) (length xs) found)))
    | inr past ↦ fails_before_first p xs k 0 (omega (arith, low, past))
  ]

  some_same : (i k : ℕ) → i ≡ k → Some i ≡ Some k
  some_same i k e = ap Some e

  by : (r : Option ℕ) (o : Option ℕ) → position p xs ≡ o → IsFirstByte p xs r → r ≡ o
  by None None e first = refl
  by None (Some i) e first = (let f = position-Some p xs i 0 e in absurd (first i (omega arith) f.0 f.1))
  by (Some k) None e first = absurd (both_ways (p (get_or xs k 0)) (all_fail e k first.0.high) first.1)
  by (Some k) (Some i) e first =
      let f = position-Some p xs i 0 e in
      elim (cases_lt k i) [
        | inl before ↦ absurd (both_ways (p (get_or xs k 0)) (f.2 k before) first.1)
        | inr after ↦ (elim (cases_lt i k) [
          | inl later ↦ absurd (first.0.before i (omega arith) later f.1)
          | inr not_later ↦ some_same k i (omega (arith, after, not_later))
        ])
      ]

  pub first_is : (r : Option ℕ) → IsFirstByte p xs r → r ≡ position p xs
  first_is r first = by r (position p xs) refl first
