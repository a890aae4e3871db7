-- Just-in-time search (Lowe, 2017), for requests by number and values of any type.
use Rattle.std.proofs.Common.{◌≡◌, ℕ, Bool, true, false, cond, eqb, List, [], ◌∷◌, refl, sym, ap, ◌∙◌, subst, subst₂, ◌⊎◌, inl, inr, arith, eq-eqb, eqb-true}
use Rattle.std.proofs.lemmas.Bool.Decides.{nat_tests}
pub use Rattle.sc_linear_law.specs.Game.{Move, without, joined, Takes, CanPass, AllFit}

pub pointwise : {p q : ℕ → Bool} → ((y : ℕ) → p y ≡ q y) → p ≡ q
pointwise h = λ i y. h y i

pub choose : (b : Bool) → (b ≡ true) ⊎ (b ≡ false)
choose true = inl refl
choose false = inr refl

pub differ : {b : Bool} → b ≡ true → b ≡ false → ⊥
differ t f = let e : true ≡ false = sym t ∙ f in cc

pub gone : (x : ℕ) (p : ℕ → Bool) → without x p x ≡ false
gone x p = grind (arith, nat_tests)

pub stays : (x y : ℕ) (p : ℕ → Bool) → (y ≡ x → ⊥) → without x p y ≡ p y
stays x y p apart = grind (arith, nat_tests)

pub was_there : (x y : ℕ) (p : ℕ → Bool) → without x p y ≡ true → (p y ≡ true) × (y ≡ x → ⊥)
was_there x y p h = elim (choose (eqb y x)) [
  | inl same ↦ absurd (let e : cond (eqb y x) false (p y) ≡ true = h in let f : false ≡ true = rw same at e in cc)
  | inr other ↦ (rw other at h, λ e. differ (eq-eqb y x e) other)
]

pub same_or_not : (x y : ℕ) → (y ≡ x) ⊎ (y ≡ x → ⊥)
same_or_not x y = elim (choose (eqb y x)) [
  | inl same ↦ inl (eqb-true y x same)
  | inr other ↦ inr (λ e. differ (eq-eqb y x e) other)
]

-- an element taken from two sets stays a member of the larger one
pub swap_without : (x y : ℕ) (p : ℕ → Bool) → without x (without y p) ≡ without y (without x p)
swap_without x y p = pointwise (λ z. go (eqb z x) (eqb z y) (p z))
  where
    go : (a b c : Bool) → cond a false (cond b false c) ≡ cond b false (cond a false c)
    go true true c = refl
    go true false c = refl
    go false true c = refl
    go false false c = refl

pub swap_joined : (x d : ℕ) (p : ℕ → Bool) → (x ≡ d → ⊥) → without x (joined d p) ≡ joined d (without x p)
swap_joined x d p apart = pointwise (λ z. go z (choose (eqb z x)) (choose (eqb z d)))
  where
    go : (z : ℕ) → (eqb z x ≡ true) ⊎ (eqb z x ≡ false) → (eqb z d ≡ true) ⊎ (eqb z d ≡ false) → without x (joined d p) z ≡ joined d (without x p) z
    go z (inl a) (inl b) = absurd (apart (sym (eqb-true z x a) ∙ eqb-true z d b))
    go z (inl a) (inr b) = rw (a, b) refl
    go z (inr a) (inl b) = rw (a, b) refl
    go z (inr a) (inr b) = rw (a, b) refl

pub joined_back : (d : ℕ) (p : ℕ → Bool) → joined d (without d p) ≡ joined d p
joined_back d p = pointwise (λ z. go (eqb z d) (p z))
  where
    go : (a c : Bool) → cond a true (cond a false c) ≡ cond a true c
    go true c = refl
    go false c = refl

-- no request begins twice
abbrev pub IsFresh : List Move → (ℕ → Bool) → Type 0
IsFresh [] b = Unit {0}
IsFresh ((l, false, d) ∷ ms) b = (b d ≡ false) × IsFresh ms (joined d b)
IsFresh ((l, true, c) ∷ ms) b = IsFresh ms b

abbrev pub Below : (ℕ → Bool) → (ℕ → Bool) → Type 0
Below p q = (y : ℕ) → p y ≡ true → q y ≡ true

pub below_joined : (d : ℕ) (p q : ℕ → Bool) → Below p q → Below (joined d p) (joined d q)
below_joined d p q h y = elim (eqb y d) as (λ t. cond t true (p y) ≡ true → cond t true (q y) ≡ true) [ true ↦ λ _. refl | false ↦ h y ]

pub below_without : (d : ℕ) (p q : ℕ → Bool) → Below p q → Below (without d p) (without d q)
below_without d p q h y = elim (eqb y d) as (λ t. cond t false (p y) ≡ true → cond t false (q y) ≡ true) [ true ↦ λ e. e | false ↦ h y ]

pub below_less : (d : ℕ) (p q : ℕ → Bool) → Below p q → Below (without d p) q
below_less d p q h y e = h y (was_there d y p e).0

module _ {V : Type 0} (fits : ℕ → V → Bool) (next : ℕ → V → V) where
  -- what is taken now may be taken at the next end as well
  pub postpone : (ms : List Move) (b p : ℕ → Bool) (v : V) (x : ℕ) → IsFresh ms b → Below p b → p x ≡ true → fits x v ≡ true → CanPass fits next ms (without x p) (next x v) → CanPass fits next ms p v
  postpone [] b p v x fresh below px f h = tt
  postpone ((l, false, d) ∷ ms) b p v x fresh below px f h =
      let apart : x ≡ d → ⊥ = λ e. differ (subst (λ y. b y ≡ true) e (below x px)) fresh.0 in
      let there : joined d p x ≡ true = elim (choose (eqb x d)) [ inl a ↦ rw a refl | inr a ↦ rw a px ] in
      postpone ms (joined d b) (joined d p) v x fresh.1 (below_joined d p b below) there f (subst (λ q. CanPass fits next ms q (next x v)) (sym (swap_joined x d p apart)) h)
  postpone ((l, true, c) ∷ ms) b p v x fresh below px f h = go (λ k. postpone ms b p v x fresh below px f k) (choose (p c)) h.0 h.1
    where
      go : (CanPass fits next ms (without x p) (next x v) → CanPass fits next ms p v) → (p c ≡ true) ⊎ (p c ≡ false) → (xs : List ℕ) → Takes fits next c (CanPass fits next ms) xs (without x p) (next x v) → (ys : List ℕ) × Takes fits next c (CanPass fits next ms) ys p v
      go later (inl pc) xs t = (x ∷ xs, (pc, px, f, t))
      go later (inr pc) [] t = ([], (pc, later t.1))
      go later (inr pc) (y ∷ ys) t = absurd (differ (was_there x c p t.0).0 pc)

  module _ (r : ℕ) (reads : (v : V) → fits r v ≡ true → next r v ≡ v) where
    pub skip_takes : (c : ℕ) (ms : List Move) (b : ℕ → Bool) → IsFresh ms b → ((p : ℕ → Bool) (v : V) → Below p b → CanPass fits next ms p v → CanPass fits next ms (without r p) v) → (xs : List ℕ) (p : ℕ → Bool) (v : V) → Below p b → Takes fits next c (CanPass fits next ms) xs p v → (ys : List ℕ) × Takes fits next c (CanPass fits next ms) ys (without r p) v
    skip_takes c ms b fresh skips [] p v below t = ([], (go (choose (eqb c r)), skips p v below t.1))
      where
        go : (eqb c r ≡ true) ⊎ (eqb c r ≡ false) → without r p c ≡ false
        go (inl e) = rw e refl
        go (inr e) = rw e t.0
    skip_takes c ms b fresh skips (x ∷ xs) p v below t = at (skip_takes c ms b fresh skips xs (without x p) (next x v) (below_less x p b below) t.3) (same_or_not r x)
      where
        later : (x ≡ r → ⊥) → (c ≡ r) ⊎ (c ≡ r → ⊥) → (ys : List ℕ) → Takes fits next c (CanPass fits next ms) ys (without x (without r p)) (next x v) → (ys : List ℕ) × Takes fits next c (CanPass fits next ms) ys (without r p) v
        later apart (inl e) [] u = ([], (subst (λ z. without r p z ≡ false) (sym e) (gone r p), postpone ms b (without r p) v x fresh (below_less r p b below) (stays r x p apart ∙ t.1) t.2 u.1))
        later apart (inl e) (y ∷ ys) u = absurd (differ (was_there x c (without r p) u.0).0 (subst (λ z. without r p z ≡ false) (sym e) (gone r p)))
        later apart (inr other) ys u = (x ∷ ys, (stays r c p other ∙ t.0, stays r x p apart ∙ t.1, t.2, u))

        at : (ys : List ℕ) × Takes fits next c (CanPass fits next ms) ys (without r (without x p)) (next x v) → (x ≡ r) ⊎ (x ≡ r → ⊥) → (ys : List ℕ) × Takes fits next c (CanPass fits next ms) ys (without r p) v
        at rest (inl e) = (xs, subst₂ (λ z w. Takes fits next c (CanPass fits next ms) xs (without z p) w) e (ap (λ z. next z v) e ∙ reads v (subst (λ z. fits z v ≡ true) e t.2)) t.3)
        at rest (inr apart) = later apart (same_or_not r c) rest.0 (subst (λ q. Takes fits next c (CanPass fits next ms) rest.0 q (next x v)) (swap_without r x p) rest.1)

    -- a request that changes nothing where it fits may be taken at once
    pub skip : (ms : List Move) (b p : ℕ → Bool) (v : V) → IsFresh ms b → Below p b → CanPass fits next ms p v → CanPass fits next ms (without r p) v
    skip [] b p v fresh below h = tt
    skip ((l, false, d) ∷ ms) b p v fresh below h = go (skip ms (joined d b) (joined d p) v fresh.1 (below_joined d p b below) h) (same_or_not d r)
      where
        go : CanPass fits next ms (without r (joined d p)) v → (r ≡ d) ⊎ (r ≡ d → ⊥) → CanPass fits next ms (joined d (without r p)) v
        go all (inl e) = subst (λ q. CanPass fits next ms q v) (sym (subst (λ z. joined d (without z p) ≡ joined d p) (sym e) (joined_back d p))) h
        go all (inr apart) = subst (λ q. CanPass fits next ms q v) (swap_joined r d p apart) all
    skip ((l, true, c) ∷ ms) b p v fresh below h = skip_takes c ms b fresh (λ q w low g. skip ms b q w fresh low g) h.0 p v below h.1

  module _ (lost : ℕ → Bool) where
    -- each request that ends is none of the lost
    abbrev pub EndsKept : List Move → Type 0
    EndsKept [] = Unit {0}
    EndsKept ((l, false, d) ∷ ms) = EndsKept ms
    EndsKept ((l, true, c) ∷ ms) = (lost c ≡ false) × EndsKept ms

    -- the second set has what the first one has, and else only lost ones
    abbrev pub Wider : (ℕ → Bool) → (ℕ → Bool) → Type 0
    Wider p q = (y : ℕ) → (p y ≡ true → q y ≡ true) × (q y ≡ true → (p y ≡ true) ⊎ (lost y ≡ true))

    wider_joined : (d : ℕ) (p q : ℕ → Bool) → Wider p q → Wider (joined d p) (joined d q)
    wider_joined d p q h y = elim (eqb y d) as (λ t. (cond t true (p y) ≡ true → cond t true (q y) ≡ true) × (cond t true (q y) ≡ true → (cond t true (p y) ≡ true) ⊎ (lost y ≡ true))) [ true ↦ (λ _. refl, λ _. inl refl) | false ↦ h y ]

    wider_without : (d : ℕ) (p q : ℕ → Bool) → Wider p q → Wider (without d p) (without d q)
    wider_without d p q h y = elim (eqb y d) as (λ t. (cond t false (p y) ≡ true → cond t false (q y) ≡ true) × (cond t false (q y) ≡ true → (cond t false (p y) ≡ true) ⊎ (lost y ≡ true))) [ true ↦ (λ e. e, λ e. inl e) | false ↦ h y ]

    pub widen_takes : (c : ℕ) (K : (ℕ → Bool) → V → Type 0) → lost c ≡ false → ((p q : ℕ → Bool) (v : V) → Wider p q → K p v → K q v) → (xs : List ℕ) (p q : ℕ → Bool) (v : V) → Wider p q → Takes fits next c K xs p v → Takes fits next c K xs q v
    widen_takes c K kept widens [] p q v h t = (elim (choose (q c)) [ inr e ↦ e | inl e ↦ absurd (elim ((h c).1 e) [ inl a ↦ differ a t.0 | inr a ↦ differ a kept ]) ], widens p q v h t.1)
    widen_takes c K kept widens (x ∷ xs) p q v h t = ((h c).0 t.0, (h x).0 t.1, t.2, widen_takes c K kept widens xs (without x p) (without x q) (next x v) (wider_without x p q h) t.3)

    -- more lost requests that are not taken do no harm
    pub widen : (ms : List Move) → EndsKept ms → (p q : ℕ → Bool) (v : V) → Wider p q → CanPass fits next ms p v → CanPass fits next ms q v
    widen [] kept p q v h g = tt
    widen ((l, false, d) ∷ ms) kept p q v h g = widen ms kept (joined d p) (joined d q) v (wider_joined d p q h) g
    widen ((l, true, c) ∷ ms) kept p q v h g = (g.0, widen_takes c (CanPass fits next ms) kept.0 (λ p' q' w wide k. widen ms kept.1 p' q' w wide k) g.0 p q v h g.1)
