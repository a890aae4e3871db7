-- A set stays ascending when a node is put into it or taken out.
use Rattle.std.proofs.Common.{◌≡◌, ℕ, ◌+◌, ◌<◌, ◌≤◌, true, false, not, eqb, ltb, List, [], ◌∷◌, ◌++◌, length, filter, inl, inr, ap, arith}
use Rattle.std.specs.List.{All, AllPairs}
use Rattle.std.specs.List.Sorted.{IsStrictlyIncreasing}
use Rattle.std.proofs.lemmas.Bool.{cases_Bool, cond-true, cond-false, ltb-true, eqb-true, ne_eqb, not_from_false, not_from_true}
use Rattle.std.proofs.lemmas.List.Kept.{AllPairs-cons, AllPairs-filter, AllPairs-from_increasing, IsStrictlyIncreasing-filter}
use Rattle.std.proofs.lemmas.List.Elements.{All-cons, All-tail, All-head, All-append, All-weaker, filter_passes}
use Rattle.std.proofs.lemmas.List.{length-append}
use Rattle.sc_base.specs.Definitions.{IsRoster, is_member, with_member, without_member}
use Rattle.sc_base.proofs.SetLemmas.{split_length, length-filter-le}
use Rattle.sc_base.proofs.Pairs.{AllPairs-head, AllPairs-tail}

-- one node is below another
abbrev pub Below : ℕ → ℕ → Type 0
Below x y = x < y

joined : (low : List ℕ) (n : ℕ) (high : List ℕ) → AllPairs Below low → All (λ x. x < n) low → AllPairs Below high → All (Below n) high → AllPairs Below (low ++ n ∷ high)
joined [] n high up under up' over = AllPairs-cons Below n high over up'
joined (x ∷ low) n high up under up' over =
    let lt : x < n = All-head (λ y. y < n) x low under in
    AllPairs-cons Below x (low ++ n ∷ high)
    (All-append (Below x) low (n ∷ high) (AllPairs-head Below x low up) (All-cons (Below x) n high lt (All-weaker (Below n) (Below x) (λ y h. omega arith) high over)))
    (joined low n high (AllPairs-tail Below x low up) (All-tail (λ y. y < n) x low under) up' over)

ascending_with : (members : List ℕ) (n : ℕ) → IsStrictlyIncreasing members → IsStrictlyIncreasing (with_member members n)
ascending_with members n up =
    let low = filter (λ x. ltb x n) members in
    let high = filter (λ x. ltb n x) members in
    let pairs = AllPairs-from_increasing members up in
    let under : All (λ x. x < n) low = All-weaker _ (λ x. x < n) (λ x t. ltb-true x n t) low (filter_passes (λ x. ltb x n) members) in
    let over : All (Below n) high = All-weaker _ (Below n) (λ x t. ltb-true n x t) high (filter_passes (λ x. ltb n x) members) in
    let all = joined low n high (AllPairs-filter Below (λ x. ltb x n) members pairs) under (AllPairs-filter Below (λ x. ltb n x) members pairs) over in
    λ k within. all k (k + 1) 0 (omega arith) within

-- a set with one more node is a set
pub roster_with : (members : List ℕ) (n : ℕ) → IsRoster members → is_member members n ≡ false → length members < 9 → IsRoster (with_member members n)
roster_with members n is absent room =
    let low = filter (λ x. ltb x n) members in
    let high = filter (λ x. ltb n x) members in
    let long = length-append low (n ∷ high) in
    let parts = split_length members n absent in
    record { some = omega arith; most = omega arith; ascending = ascending_with members n is.ascending }

-- of two members at least one stays
one_stays : (members : List ℕ) (n : ℕ) → IsStrictlyIncreasing members → 2 ≤ length members → 1 ≤ length (without_member members n)
one_stays [] n up two = absurd (omega arith)
one_stays (x ∷ []) n up two = absurd (omega arith)
one_stays (x ∷ y ∷ rest) n up two =
    let lt : x < y = up 0 (omega arith) in
    let stays = λ (z : ℕ) (zs : List ℕ) (t : not (eqb z n) ≡ true). ap length (cond-true (not (eqb z n)) (z ∷ without_member zs n) (without_member zs n) t) in
    let goes = λ (z : ℕ) (zs : List ℕ) (t : not (eqb z n) ≡ false). ap length (cond-false (not (eqb z n)) (z ∷ without_member zs n) (without_member zs n) t) in
    elim (cases_Bool (eqb x n)) [
      | inl t ↦ (
          let same = eqb-true x n t in
          let other = ne_eqb y n (λ e. absurd (omega arith)) in
          let a = goes x (y ∷ rest) (not_from_true (eqb x n) t) in
          let b = stays y rest (not_from_false (eqb y n) other) in
          omega arith)
      | inr f ↦ (let a = stays x (y ∷ rest) (not_from_false (eqb x n) f) in omega arith)
    ]

-- a set without one of its nodes is a set
pub roster_without : (members : List ℕ) (n : ℕ) → IsRoster members → 2 ≤ length members → IsRoster (without_member members n)
roster_without members n is two =
    let few = length-filter-le (λ x. not (eqb x n)) members in
    record { some = one_stays members n is.ascending two; most = omega (arith, is.most); ascending = IsStrictlyIncreasing-filter (λ x. not (eqb x n)) members is.ascending }
