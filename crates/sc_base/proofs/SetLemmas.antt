-- What is kept when a node is put into a set or taken out.
use Rattle.std.proofs.Common.{◌≡◌, ℕ, ◌+◌, ◌<◌, ◌≤◌, Bool, true, false, cond, eqb, ltb, List, [], ◌∷◌, length, take, filter, count_by, get_or, zero, suc, inl, inr, refl, sym, ◌∙◌, ap, arith}
use Rattle.std.proofs.lemmas.Bool.{cases_Bool, cond-true, cond-false, eqb-false, cases_order, lt-ltb, le-ltb, or_parts}
use Rattle.std.proofs.lemmas.List.Sums.{length-filter, count_by-le-length, sum_by-cons}
use Rattle.sc_base.specs.Definitions.{is_member}

-- what passes a test is not more than all
pub length-filter-le : {X : Type 0} (p : X → Bool) (xs : List X) → length (filter p xs) ≤ length xs
length-filter-le p xs = omega (arith, length-filter p xs, count_by-le-length p xs)

filter-yes : (p : ℕ → Bool) (x : ℕ) (xs : List ℕ) → p x ≡ true → filter p (x ∷ xs) ≡ x ∷ filter p xs
filter-yes p x xs t = cond-true (p x) (x ∷ filter p xs) (filter p xs) t

filter-no : (p : ℕ → Bool) (x : ℕ) (xs : List ℕ) → p x ≡ false → filter p (x ∷ xs) ≡ filter p xs
filter-no p x xs f = cond-false (p x) (x ∷ filter p xs) (filter p xs) f

-- what stands below a node and what stands above it are parts of the whole
pub split_le : (f : ℕ → Bool) (xs : List ℕ) (n : ℕ)
    → count_by f (filter (λ x. ltb x n) xs) + count_by f (filter (λ x. ltb n x) xs) ≤ count_by f xs
split_le f [] n = omega arith
split_le f (x ∷ xs) n =
    let rest = split_le f xs n in
    let here = sum_by-cons (λ y. cond (f y) 1 0) x xs in
    let low = sum_by-cons (λ y. cond (f y) 1 0) x (filter (λ y. ltb y n) xs) in
    let high = sum_by-cons (λ y. cond (f y) 1 0) x (filter (λ y. ltb n y) xs) in
    elim (cases_order x n) [
      | inl e ↦ (
          let a = ap (count_by f) (filter-no (λ y. ltb y n) x xs (le-ltb x n (omega arith))) in
          let b = ap (count_by f) (filter-no (λ y. ltb n y) x xs (le-ltb n x (omega arith))) in
          omega (arith, rest, here, a, b))
      | inr o ↦ elim o [
        | inl lt ↦ (
            let a = ap (count_by f) (filter-yes (λ y. ltb y n) x xs (lt-ltb x n lt)) in
            let b = ap (count_by f) (filter-no (λ y. ltb n y) x xs (le-ltb n x (omega arith))) in
            omega (arith, rest, here, low, a, b))
        | inr gt ↦ (
            let a = ap (count_by f) (filter-no (λ y. ltb y n) x xs (le-ltb x n (omega arith))) in
            let b = ap (count_by f) (filter-yes (λ y. ltb n y) x xs (lt-ltb n x gt)) in
            omega (arith, rest, here, high, a, b))
      ]
    ]

-- and where the node itself is not there, they are all of it
pub split_length : (xs : List ℕ) (n : ℕ) → is_member xs n ≡ false
    → length (filter (λ x. ltb x n) xs) + length (filter (λ x. ltb n x) xs) ≡ length xs
split_length [] n absent = refl
split_length (x ∷ xs) n absent =
    let parts = or_parts (eqb x n) (is_member xs n) absent in
    let rest = split_length xs n parts.1 in
    elim (cases_order x n) [
      | inl e ↦ absurd (eqb-false x n parts.0 e)
      | inr o ↦ elim o [
        | inl lt ↦ (
            let a = ap length (filter-yes (λ y. ltb y n) x xs (lt-ltb x n lt)) in
            let b = ap length (filter-no (λ y. ltb n y) x xs (le-ltb n x (omega arith))) in
            omega (arith, rest, a, b))
        | inr gt ↦ (
            let a = ap length (filter-no (λ y. ltb y n) x xs (le-ltb x n (omega arith))) in
            let b = ap length (filter-yes (λ y. ltb n y) x xs (lt-ltb n x gt)) in
            omega (arith, rest, a, b))
      ]
    ]

-- one more of those that pass, from a place that passes
pub length-filter-next : (p : ℕ → Bool) (xs : List ℕ) (i x : ℕ) → i < length xs → x ≡ get_or xs i x → p x ≡ true → length (filter p (take i xs)) + 1 ≤ length (filter p xs)
length-filter-next p [] i x within read passes = absurd (omega arith)
length-filter-next p (y ∷ ys) zero x within read passes =
    let same : x ≡ y = read in
    let yes = ap length (filter-yes p y ys (ap p (sym same) ∙ passes)) in
    omega arith
length-filter-next p (y ∷ ys) (suc i) x within read passes =
    let rest = length-filter-next p ys i x (omega arith) read passes in
    elim (cases_Bool (p y)) [
      | inl t ↦ (let a = ap length (filter-yes p y (take i ys) t) in let b = ap length (filter-yes p y ys t) in omega arith)
      | inr f ↦ (let a = ap length (filter-no p y (take i ys) f) in let b = ap length (filter-no p y ys f) in omega arith)
    ]

-- what stands below a node and what stands above it are not more than all
pub split_length_le : (xs : List ℕ) (n : ℕ) → length (filter (λ x. ltb x n) xs) + length (filter (λ x. ltb n x) xs) ≤ length xs
split_length_le [] n = omega arith
split_length_le (x ∷ xs) n =
    let rest = split_length_le xs n in
    elim (cases_order x n) [
      | inl e ↦ (
          let a = ap length (filter-no (λ y. ltb y n) x xs (le-ltb x n (omega arith))) in
          let b = ap length (filter-no (λ y. ltb n y) x xs (le-ltb n x (omega arith))) in
          omega (arith, rest, a, b))
      | inr o ↦ elim o [
        | inl lt ↦ (
            let a = ap length (filter-yes (λ y. ltb y n) x xs (lt-ltb x n lt)) in
            let b = ap length (filter-no (λ y. ltb n y) x xs (le-ltb n x (omega arith))) in
            omega (arith, rest, a, b))
        | inr gt ↦ (
            let a = ap length (filter-no (λ y. ltb y n) x xs (le-ltb x n (omega arith))) in
            let b = ap length (filter-yes (λ y. ltb n y) x xs (lt-ltb n x gt)) in
            omega (arith, rest, a, b))
      ]
    ]
