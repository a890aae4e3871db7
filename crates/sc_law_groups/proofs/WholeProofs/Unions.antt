-- Two sets of nodes have as many nodes together, whichever comes first.
use Rattle.std.proofs.Common.{◌≡◌, ℕ, suc, ◌+◌, ◌||◌, not, Bool, false, cond, eqb, List, [], ◌∷◌, length, filter, inl, inr, refl, sym, ◌∙◌, ap, subst, arith}
use Rattle.std.specs.List.{AllPairs}
use Rattle.std.proofs.lemmas.Bool.{cases_Bool, eqb-true, eqb-false, eq-eqb, ne_eqb}
use Rattle.std.proofs.lemmas.List.Filters.{length-filter_both}
use Rattle.std.proofs.lemmas.List.Kept.{AllPairs-from_increasing}
use Rattle.sc_base.specs.Definitions.{IsRoster, is_member, united}
use Rattle.sc_base.proofs.Lemmas.{Below, count_united, AllPairs-head, AllPairs-tail}
use Rattle.sc_law_walks.proofs.WalkLemmas.{none_below as not_in}

-- each node stands once
abbrev AreOnce : List ℕ → Type 0
AreOnce [] = Unit {0}
AreOnce (x ∷ xs) = (is_member xs x ≡ false) × AreOnce xs

-- nodes that ascend stand once
once_of : (xs : List ℕ) → AllPairs Below xs → AreOnce xs
once_of [] pairs = tt
once_of (x ∷ xs) pairs = (not_in x xs (AllPairs-head Below x xs pairs), once_of xs (AllPairs-tail Below x xs pairs))

-- the same test the other way round
flipped : (x y : ℕ) → eqb x y ≡ eqb y x
flipped x y = elim (cases_Bool (eqb x y)) [
  | inl t ↦ t ∙ sym (eq-eqb y x (sym (eqb-true x y t)))
  | inr f ↦ f ∙ sym (ne_eqb y x (λ e. eqb-false x y f (sym e)))
]

-- one or none
abbrev bit : Bool → ℕ
bit b = cond b 1 0

-- a node stands in a set once or never
single : (x : ℕ) (b : List ℕ) → AreOnce b → length (filter (λ y. eqb x y) b) ≡ bit (is_member b x)
single x [] once = refl
single x (y ∷ ys) once =
    let rest = single x ys once.1 in
    let others = filter (λ z. eqb x z) ys in
    elim (cases_Bool (eqb x y)) [
      | inl t ↦ (
          let same : x ≡ y = eqb-true x y t in
          let none : is_member ys x ≡ false = subst (λ z. is_member ys z ≡ false) (sym same) once.0 in
          let zero : length others ≡ 0 = rest ∙ ap bit none in
          ap (λ c. length (cond c (y ∷ others) others)) t ∙ ap suc zero ∙ sym (ap (λ c. bit (c || is_member ys x)) (sym (flipped x y) ∙ t)))
      | inr f ↦ ap (λ c. length (cond c (y ∷ others) others)) f ∙ rest ∙ sym (ap (λ c. bit (c || is_member ys x)) (sym (flipped x y) ∙ f))
    ]

-- what two sets share, with one node more in the first
both_of : (x : ℕ) (a b : List ℕ) → is_member a x ≡ false → length (filter (λ y. is_member (x ∷ a) y) b) ≡ length (filter (λ y. eqb x y) b) + length (filter (is_member a) b)
both_of x a [] none = refl
both_of x a (y ∷ ys) none =
    let rest = both_of x a ys none in
    let all = filter (λ z. is_member (x ∷ a) z) ys in
    let one = filter (λ z. eqb x z) ys in
    let other = filter (is_member a) ys in
    elim (cases_Bool (eqb x y)) [
      | inl t ↦ (
          let out : is_member a y ≡ false = subst (λ z. is_member a z ≡ false) (eqb-true x y t) none in
          let first : length (cond (eqb x y || is_member a y) (y ∷ all) all) ≡ suc (length all) = ap (λ c. length (cond (c || is_member a y) (y ∷ all) all)) t in
          let second : length (cond (eqb x y) (y ∷ one) one) ≡ suc (length one) = ap (λ c. length (cond c (y ∷ one) one)) t in
          let third : length (cond (is_member a y) (y ∷ other) other) ≡ length other = ap (λ c. length (cond c (y ∷ other) other)) out in
          omega (arith, rest, first, second, third))
      | inr f ↦ (
          let second : length (cond (eqb x y) (y ∷ one) one) ≡ length one = ap (λ c. length (cond c (y ∷ one) one)) f in
          elim (cases_Bool (is_member a y)) [
            | inl t ↦ (
                let first : length (cond (eqb x y || is_member a y) (y ∷ all) all) ≡ suc (length all) = ap (λ c. length (cond (c || is_member a y) (y ∷ all) all)) f ∙ ap (λ c. length (cond c (y ∷ all) all)) t in
                let third : length (cond (is_member a y) (y ∷ other) other) ≡ suc (length other) = ap (λ c. length (cond c (y ∷ other) other)) t in
                omega (arith, rest, first, second, third))
            | inr g ↦ (
                let first : length (cond (eqb x y || is_member a y) (y ∷ all) all) ≡ length all = ap (λ c. length (cond (c || is_member a y) (y ∷ all) all)) f ∙ ap (λ c. length (cond c (y ∷ all) all)) g in
                let third : length (cond (is_member a y) (y ∷ other) other) ≡ length other = ap (λ c. length (cond c (y ∷ other) other)) g in
                omega (arith, rest, first, second, third))
          ])
    ]

-- and with none in the first
none_of : (b : List ℕ) → length (filter (λ y. is_member [] y) b) ≡ 0
none_of [] = refl
none_of (y ∷ ys) = none_of ys

-- two sets share as many nodes as they do the other way round
shared : (a b : List ℕ) → AreOnce a → AreOnce b → length (filter (is_member a) b) ≡ length (filter (is_member b) a)
shared [] b once other = none_of b
shared (x ∷ a) b once other =
    let rest = shared a b once.1 other in
    let split = both_of x a b once.0 in
    let here = single x b other in
    let mine = filter (is_member b) a in
    elim (cases_Bool (is_member b x)) [
      | inl t ↦ (
          let one : bit (is_member b x) ≡ 1 = ap bit t in
          let more : length (cond (is_member b x) (x ∷ mine) mine) ≡ suc (length mine) = ap (λ c. length (cond c (x ∷ mine) mine)) t in
          omega (arith, rest, split, here, one, more))
      | inr f ↦ (
          let one : bit (is_member b x) ≡ 0 = ap bit f in
          let more : length (cond (is_member b x) (x ∷ mine) mine) ≡ length mine = ap (λ c. length (cond c (x ∷ mine) mine)) f in
          omega (arith, rest, split, here, one, more))
    ]

-- a union has as many nodes as it has the other way round
pub either_way : (a b : List ℕ) → IsRoster a → IsRoster b → length (united a b) ≡ length (united b a)
either_way a b one other =
    let first = count_united a b other.ascending in
    let second = count_united b a one.ascending in
    let in_b = length-filter_both (is_member a) (λ x. not (is_member a x)) (λ x. refl) b in
    let in_a = length-filter_both (is_member b) (λ x. not (is_member b x)) (λ x. refl) a in
    let same = shared a b (once_of a (AllPairs-from_increasing a one.ascending)) (once_of b (AllPairs-from_increasing b other.ascending)) in
    omega (arith, first, second, in_b, in_a, same)
