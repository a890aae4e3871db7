-- Ascending numbers, with one more and without one.
use Rattle.std.proofs.Common.{◌≡◌, ℕ, ◌<◌, ◌≤◌, Bool, true, false, cond, not, eqb, leb, ◌||◌, List, [], ◌∷◌, refl, sym, ap, ◌∙◌, subst, ◌⊎◌, inl, inr, arith, eqb-true, eq-eqb, leb-true, leb-false, add-one, true≢false}
use Rattle.sc_base.specs.Definitions.{Among}
use Rattle.sc_linear_law.specs.LinearDefinitions.{EachPair}
use Rattle.sc_linear_law.proofs.Game.{choose, differ}
use Rattle.sc_linear_law.proofs.ListFacts.{each_at, each_from, each_more, among_filter, among_unfilter, pairs_filter}
use Rattle.sc_linear.specs.Search.{rank_of, taken_with, taken_without}
use Rattle.sc_linear.specs.Standing.{has}

has_case : (x y : ℕ) (ys : List ℕ) (b : Bool) → eqb y x ≡ b → has (y ∷ ys) x ≡ b || has ys x
has_case x y ys b e = rw e refl

pub has_among : (x : ℕ) (xs : List ℕ) → has xs x ≡ true → Among x xs
has_among x [] h = absurd (true≢false (sym h))
has_among x (y ∷ ys) h = go (eqb y x) refl (λ k. has_among x ys k)
  where
    go : (b : Bool) → eqb y x ≡ b → (has ys x ≡ true → Among x ys) → Among x (y ∷ ys)
    go true e rest = inl (eqb-true y x e)
    go false e rest = inr (rest (sym (has_case x y ys false e) ∙ h))

pub among_has : (x : ℕ) (xs : List ℕ) → Among x xs → has xs x ≡ true
among_has x [] h = absurd h
among_has x (y ∷ ys) (inl e) = has_case x y ys true (eq-eqb y x e)
among_has x (y ∷ ys) (inr h) = go (eqb y x) refl (among_has x ys h)
  where
    go : (b : Bool) → eqb y x ≡ b → has ys x ≡ true → has (y ∷ ys) x ≡ true
    go true e rest = has_case x y ys true e
    go false e rest = has_case x y ys false e ∙ rest

pub not_among : (x : ℕ) (xs : List ℕ) → has xs x ≡ false → Among x xs → ⊥
not_among x xs e h = differ (among_has x xs h) e

pub not_has : (x : ℕ) (xs : List ℕ) → (Among x xs → ⊥) → has xs x ≡ false
not_has x xs h = elim (choose (has xs x)) [ inl t ↦ absurd (h (has_among x xs t)) | inr f ↦ f ]

abbrev put : ℕ → List ℕ → List ℕ
put x [] = x ∷ []
put x (y ∷ ys) = cond (leb x y) (x ∷ y ∷ ys) (y ∷ put x ys)

put_is : (x : ℕ) (ys : List ℕ) → taken_with x ys ≡ put x ys
put_is x [] = refl
put_is x (y ∷ ys) = go (leb x y) refl (put_is x ys)
  where
    go : (b : Bool) → leb x y ≡ b → taken_with x ys ≡ put x ys → taken_with x (y ∷ ys) ≡ put x (y ∷ ys)
    go true e rest = rw e refl
    go false e rest = rw (e, add-one (rank_of x ys)) (ap (λ zs. y ∷ zs) rest)

put_from : (x z : ℕ) (ys : List ℕ) → Among z (put x ys) → (z ≡ x) ⊎ Among z ys
put_from x z [] (inl e) = inl (sym e)
put_from x z [] (inr h) = absurd h
put_from x z (y ∷ ys) h = go (leb x y) h (λ k. put_from x z ys k)
  where
    go : (b : Bool) → Among z (cond b (x ∷ y ∷ ys) (y ∷ put x ys)) → (Among z (put x ys) → (z ≡ x) ⊎ Among z ys) → (z ≡ x) ⊎ Among z (y ∷ ys)
    go true (inl e) rest = inl (sym e)
    go true (inr k) rest = inr k
    go false (inl e) rest = inr (inl e)
    go false (inr k) rest = elim (rest k) [ inl e ↦ inl e | inr l ↦ inr (inr l) ]

put_here : (x : ℕ) (ys : List ℕ) → Among x (put x ys)
put_here x [] = inl refl
put_here x (y ∷ ys) = elim (leb x y) as (λ b. Among x (cond b (x ∷ y ∷ ys) (y ∷ put x ys))) [ true ↦ inl refl | false ↦ inr (put_here x ys) ]

put_there : (x z : ℕ) (ys : List ℕ) → Among z ys → Among z (put x ys)
put_there x z [] h = absurd h
put_there x z (y ∷ ys) h = go (leb x y) h (λ k. put_there x z ys k)
  where
    go : (b : Bool) → Among z (y ∷ ys) → (Among z ys → Among z (put x ys)) → Among z (cond b (x ∷ y ∷ ys) (y ∷ put x ys))
    go true k rest = inr k
    go false (inl e) rest = inl e
    go false (inr k) rest = inr (rest k)

put_ascending : (x : ℕ) (ys : List ℕ) → EachPair (λ (a b : ℕ). a < b) ys → (Among x ys → ⊥) → EachPair (λ (a b : ℕ). a < b) (put x ys)
put_ascending x [] up new = (tt, tt)
put_ascending x (y ∷ ys) up new = go (leb x y) refl (put_ascending x ys up.1 (λ k. new (inr k)))
  where
    go : (b : Bool) → leb x y ≡ b → EachPair (λ (a c : ℕ). a < c) (put x ys) → EachPair (λ (a c : ℕ). a < c) (cond b (x ∷ y ∷ ys) (y ∷ put x ys))
    go true e rest =
        let low : x ≤ y = leb-true x y e in
        let apart : y ≡ x → ⊥ = λ q. new (inl q) in
        let below : x < y = omega arith in
        ((below, each_more (λ (z : ℕ). y < z) (λ (z : ℕ). x < z) ys (λ z k. omega arith) up.0), up)
    go false e rest =
        let above : y < x = leb-false x y e in
        (each_from (λ (z : ℕ). y < z) (put x ys) (λ z k. elim (put_from x z ys k) [ inl q ↦ omega arith | inr l ↦ each_at (λ (w : ℕ). y < w) ys z up.0 l ]), rest)

pub with_from : (x z : ℕ) (ys : List ℕ) → Among z (taken_with x ys) → (z ≡ x) ⊎ Among z ys
with_from x z ys h = put_from x z ys (subst (Among z) (put_is x ys) h)

pub with_here : (x : ℕ) (ys : List ℕ) → Among x (taken_with x ys)
with_here x ys = subst (Among x) (sym (put_is x ys)) (put_here x ys)

pub with_there : (x z : ℕ) (ys : List ℕ) → Among z ys → Among z (taken_with x ys)
with_there x z ys h = subst (Among z) (sym (put_is x ys)) (put_there x z ys h)

pub with_ascending : (x : ℕ) (ys : List ℕ) → EachPair (λ (a b : ℕ). a < b) ys → (Among x ys → ⊥) → EachPair (λ (a b : ℕ). a < b) (taken_with x ys)
with_ascending x ys up new = subst (EachPair (λ (a b : ℕ). a < b)) (sym (put_is x ys)) (put_ascending x ys up new)

passes_without : (x z : ℕ) → (z ≡ x → ⊥) → not (eqb z x) ≡ true
passes_without x z apart = elim (choose (eqb z x)) [ inl t ↦ absurd (apart (eqb-true z x t)) | inr f ↦ rw f refl ]

passed_without : (x z : ℕ) → not (eqb z x) ≡ true → z ≡ x → ⊥
passed_without x z h e = true≢false (sym h ∙ ap not (eq-eqb z x e))

pub without_from : (x z : ℕ) (ys : List ℕ) → Among z (taken_without x ys) → Among z ys × (z ≡ x → ⊥)
without_from x z ys h = let r : Among z ys × (not (eqb z x) ≡ true) = among_unfilter (λ y. not (eqb y x)) z ys h in (r.0, passed_without x z r.1)

pub without_there : (x z : ℕ) (ys : List ℕ) → Among z ys → (z ≡ x → ⊥) → Among z (taken_without x ys)
without_there x z ys h apart = among_filter (λ y. not (eqb y x)) z ys h (passes_without x z apart)

pub without_ascending : (x : ℕ) (ys : List ℕ) → EachPair (λ (a b : ℕ). a < b) ys → EachPair (λ (a b : ℕ). a < b) (taken_without x ys)
without_ascending x ys up = pairs_filter (λ (a b : ℕ). a < b) (λ y. not (eqb y x)) ys up
