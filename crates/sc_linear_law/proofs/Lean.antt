-- A lost request that would change nothing need not be taken.
use Rattle.std.proofs.Common.{◌≡◌, ℕ, Bool, true, false, not, ◌&&◌, List, [], ◌∷◌, refl, sym, ◌∙◌, subst, ◌⊎◌, inl, inr}
use Rattle.sc_linear_law.proofs.Game.{Move, without, joined, choose, was_there, stays, same_or_not, Takes, CanPass, EndsKept, Wider, widen_takes, widen}

module _ {V : Type 0} (fits : ℕ → V → Bool) (next : ℕ → V → V) (lost : ℕ → Bool) (idle : ℕ → V → Bool) (idles : (x : ℕ) (v : V) → idle x v ≡ true → next x v ≡ v) where
  -- it fits, and is not a lost one that changes nothing
  abbrev pub lean : ℕ → V → Bool
  lean x v = fits x v && not (lost x && idle x v)

  both : (a b : Bool) → a && b ≡ true → (a ≡ true) × (b ≡ true)
  both true true h = (refl, refl)
  both true false h = absurd (let e : false ≡ true = h in cc)
  both false true h = absurd (let e : false ≡ true = h in cc)
  both false false h = absurd (let e : false ≡ true = h in cc)

  less : (x : ℕ) (p : ℕ → Bool) → lost x ≡ true → Wider fits next lost (without x p) p
  less x p gone y = (λ e. (was_there x y p e).0, λ e. elim (same_or_not x y) [ inl same ↦ inr (subst (λ z. lost z ≡ true) (sym same) gone) | inr apart ↦ inl (stays x y p apart ∙ e) ])

  lean_takes : (c : ℕ) (ms : List Move) → lost c ≡ false → EndsKept fits next lost ms → ((p : ℕ → Bool) (v : V) → CanPass fits next ms p v → CanPass lean next ms p v) → (xs : List ℕ) (p : ℕ → Bool) (v : V) → Takes fits next c (CanPass fits next ms) xs p v → (ys : List ℕ) × Takes lean next c (CanPass lean next ms) ys p v
  lean_takes c ms kept ends leans [] p v t = ([], (t.0, leans p v t.1))
  lean_takes c ms kept ends leans (x ∷ xs) p v t = go (choose (lost x && idle x v)) (lean_takes c ms kept ends leans xs (without x p) (next x v) t.3)
    where
      go : (lost x && idle x v ≡ true) ⊎ (lost x && idle x v ≡ false) → (ys : List ℕ) × Takes lean next c (CanPass lean next ms) ys (without x p) (next x v) → (ys : List ℕ) × Takes lean next c (CanPass lean next ms) ys p v
      go (inl e) r = (r.0, widen_takes lean next lost c (CanPass lean next ms) kept (λ p' q' w wide k. widen lean next lost ms ends p' q' w wide k) r.0 (without x p) p v (less x p (both _ _ e).0) (subst (λ w. Takes lean next c (CanPass lean next ms) r.0 (without x p) w) (idles x v (both _ _ e).1) r.1))
      go (inr e) r = (x ∷ r.0, (t.0, t.1, rw (t.2, e) refl, r.1))

  pub leaner : (ms : List Move) → EndsKept fits next lost ms → (p : ℕ → Bool) (v : V) → CanPass fits next ms p v → CanPass lean next ms p v
  leaner [] kept p v h = tt
  leaner ((l, false, d) ∷ ms) kept p v h = leaner ms kept (joined d p) v h
  leaner ((l, true, c) ∷ ms) kept p v h = lean_takes c ms kept.0 kept.1 (λ q w k. leaner ms kept.1 q w k) h.0 p v h.1
