-- A list of which each has another behind it, and no two the same one, falls into cycles.
use Rattle.std.proofs.Common.{◌≡◌, ℕ, zero, suc, ◌≤◌, ◌+◌, Bool, true, false, List, [], ◌∷◌, length, ◌⊎◌, inl, inr, refl, sym, ◌∙◌, ap, subst, arith}
use Rattle.std.proofs.lemmas.Bool.{cases_Bool}
use Rattle.sc_base.specs.Definitions.{Among, Each}
use Rattle.sc_words.proofs.PaxosProofs.PaxosLemmas.{Each-among, Each-weaker}

-- ---- lists that name each thing once

-- none of these is this one
abbrev pub IsNoneOf : {X : Type 0} → X → List X → Type 0
IsNoneOf x xs = Each (λ other. other ≡ x → ⊥) xs

-- no two of these are the same
abbrev pub AreDistinct : {X : Type 0} → List X → Type 0
AreDistinct [] = Unit {0}
AreDistinct (x ∷ xs) = IsNoneOf x xs × AreDistinct xs

-- a list without one of its things
record Without {X : Type 0} (x : X) (xs : List X) : Type 0 where
  left : List X
  size : length xs ≡ suc (length left)
  others : (y : X) → Among y xs → (y ≡ x) ⊎ Among y left

without : {X : Type 0} (x : X) (xs : List X) → Among x xs → Without x xs
without x [] a = absurd a
without x (y ∷ xs) (inl same) = record { left = xs; size = refl; others = λ z b. elim b [ inl e ↦ inl (let fact : z ≡ x = cc in fact) | inr there ↦ inr there ] }
without x (y ∷ xs) (inr there) =
    let w = without x xs there in
    record { left = y ∷ w.left; size = ap suc w.size; others = λ z b. elim b [ inl e ↦ inr (inl e) | inr more ↦ elim (w.others z more) [ inl e ↦ inl e | inr left ↦ inr (inr left) ] ] }

-- a list of distinct things is no longer than the list of all things
pub distinct_few : {X : Type 0} (xs all : List X) → AreDistinct xs → Each (λ x. Among x all) xs → length xs ≤ length all
distinct_few [] all d among = omega arith
distinct_few (x ∷ xs) all d among =
    let w = without x all among.0 in
    let more = distinct_few xs w.left d.1 (kept xs d.0 among.1) in
    let size = w.size in
    omega (arith, more, size)
  where
    kept : (ys : List _) → IsNoneOf x ys → Each (λ y. Among y all) ys → Each (λ y. Among y (without x all among.0).left) ys
    kept [] none among' = tt
    kept (y ∷ ys) none among' = (elim ((without x all among.0).others y among'.0) [ inl e ↦ absurd (none.0 e) | inr left ↦ left ], kept ys none.1 among'.1)

-- ---- cycles

-- each is followed by the next
abbrev pub IsChain : {X : Type 0} → (X → X → Type 0) → X → List X → Type 0
IsChain R x [] = Unit {0}
IsChain R x (y ∷ ys) = R x y × IsChain R y ys

-- the last of a list that begins with one thing
abbrev pub last_from : {X : Type 0} → X → List X → X
last_from x [] = x
last_from x (y ∷ ys) = last_from y ys

module _ {X : Type 0} (R : X → X → Type 0) (all : List X) (same : X → X → Bool) (is_same : (x y : X) → Among x all → Among y all → same x y ≡ true → x ≡ y) (is_apart : (x y : X) → same x y ≡ false → x ≡ y → ⊥)
    (step : (x : X) → Among x all → (y : X) × Among y all × R x y) (back : (x other y : X) → Among x all → Among other all → Among y all → R x y → R other y → x ≡ other) (first : X) (begins : Among first all) where
  -- what has come before one thing: each but the first has one before it among these, and none stands twice
  record IsBefore (seen : List X) (x : X) : Type 0 where
    among : Each (λ y. Among y all) (x ∷ seen)
    distinct : AreDistinct (x ∷ seen)
    led : Each (λ y. (y ≡ first) ⊎ ((p : X) × Among p seen × R p y)) (x ∷ seen)

  -- what comes behind it, up to the first again
  pub record IsRound (seen : List X) (x : X) : Type 0 where
    pub rest : List X
    pub chain : IsChain R x rest
    pub closes : R (last_from x rest) first
    pub among : Each (λ y. Among y all) rest
    pub none : Each (λ y. IsNoneOf y (x ∷ seen)) rest
    pub distinct : AreDistinct rest

  -- what comes next is the first again, or has not come before
  fresh : (seen : List X) (x y : X) → IsBefore seen x → Among y all → R x y → same y first ≡ false → IsNoneOf y (x ∷ seen)
  fresh seen x y before here next other = none (x ∷ seen) before.led before.among
    where
      none : (ys : List X) → Each (λ z. (z ≡ first) ⊎ ((p : X) × Among p seen × R p z)) ys → Each (λ z. Among z all) ys → IsNoneOf y ys
      none [] led among = tt
      none (z ∷ ys) led among = (
        λ e. elim led.0 [
          | inl begin ↦ is_apart y first other (sym e ∙ begin)
          | inr p ↦ (
              let there = Each-among (λ (w : X). Among w all) seen p.0 before.among.1 p.1 in
              let fact = back p.0 x y there before.among.0 here (subst (λ w. R p.0 w) e p.2) next in
              Each-among (λ (w : X). w ≡ x → ⊥) seen p.0 before.distinct.0 p.1 fact)
        ],
        none ys led.1 among.1,
      )

  led_more : (seen : List X) (x : X) (ys : List X) → Each (λ y. (y ≡ first) ⊎ ((p : X) × Among p seen × R p y)) ys → Each (λ y. (y ≡ first) ⊎ ((p : X) × Among p (x ∷ seen) × R p y)) ys
  led_more seen x [] led = tt
  led_more seen x (y ∷ ys) led = (elim led.0 [ inl e ↦ inl e | inr p ↦ inr (p.0, inr p.1, p.2) ], led_more seen x ys led.1)

  goes : (fuel : ℕ) (seen : List X) (x : X) → IsBefore seen x → length all ≤ length seen + fuel → IsRound seen x
  goes zero seen x before many = (let few = distinct_few (x ∷ seen) all before.distinct before.among in absurd (omega (arith, few, many)))
  goes (suc fuel) seen x before many =
      let next = step x before.among.0 in
      elim (cases_Bool (same next.0 first)) [
        | inl fact ↦ record { rest = []; chain = tt; closes = subst (λ y. R x y) (is_same next.0 first next.1 begins fact) next.2; among = tt; none = tt; distinct = tt }
        | inr other ↦ (
            let new = fresh seen x next.0 before next.1 next.2 other in
            let more = goes fuel (x ∷ seen) next.0 (record { among = (next.1, before.among); distinct = (new, before.distinct); led = (inr (x, inl refl, next.2), led_more seen x (x ∷ seen) before.led) }) (omega (arith, many)) in
            record {
              rest = next.0 ∷ more.rest;
              chain = (next.2, more.chain);
              closes = more.closes;
              among = (next.1, more.among);
              none = (new, Each-weaker (λ y. IsNoneOf y (next.0 ∷ (x ∷ seen))) (λ y. IsNoneOf y (x ∷ seen)) (λ y n. n.1) more.rest more.none);
              distinct = (turned more.rest more.none, more.distinct);
            })
      ]
    where
      turned : (ys : List X) → Each (λ y. IsNoneOf y ((step x before.among.0).0 ∷ (x ∷ seen))) ys → IsNoneOf (step x before.among.0).0 ys
      turned [] none = tt
      turned (y ∷ ys) none = (λ e. none.0.0 (sym e), turned ys none.1)

  -- from the first on, round to it again
  pub round : IsRound [] first
  round = goes (length all) [] first (record { among = (begins, tt); distinct = (tt, tt); led = (inl refl, tt) }) (omega arith)
