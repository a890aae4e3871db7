-- Two rings, cut by cut.
use Rattle.std.proofs.Common.{◌≡◌, ℕ, zero, suc, ◌<◌, ◌≤◌, ◌&&◌, Bool, true, false, List, [], ◌∷◌, length, get_or, drop, refl, sym, ◌∙◌, ap, ap₂, arith}
use Rattle.sc_meaning.specs.declared.entries.Cut.{Cut}
use Rattle.sc_explain.specs.facts.Sameness.{same_cut, same_ring}

and_false : (b : Bool) → (b && false) ≡ false
and_false true = refl
and_false false = refl

-- rings of other lengths are not the same
pub other_length : (one other : List Cut) → (length one ≡ length other → ⊥) → same_ring one other ≡ false
other_length [] [] differs = absurd (differs refl)
other_length [] (b ∷ other) differs = refl
other_length (a ∷ one) [] differs = refl
other_length (a ∷ one) (b ∷ other) differs = ap (λ c. same_cut a b && c) (other_length one other (λ e. differs (ap suc e))) ∙ and_false (same_cut a b)

-- from a place on, by the cuts there and what is behind them
pub ring_at : (one other : List Cut) (i : ℕ) (a b : Cut) → i < length one → i < length other → a ≡ get_or one i a → b ≡ get_or other i b
    → same_ring (drop i one) (drop i other) ≡ (same_cut a b && same_ring (drop (suc i) one) (drop (suc i) other))
ring_at [] other i a b lt lt_other a_is b_is = absurd (omega (arith, lt))
ring_at (x ∷ one) [] i a b lt lt_other a_is b_is = absurd (omega (arith, lt_other))
ring_at (x ∷ one) (y ∷ other) zero a b lt lt_other a_is b_is = ap₂ (λ c d. same_cut c d && same_ring one other) (sym a_is) (sym b_is)
ring_at (x ∷ one) (y ∷ other) (suc i) a b lt lt_other a_is b_is = ring_at one other i a b (omega (arith, lt)) (omega (arith, lt_other)) a_is b_is

-- behind all cuts of both nothing differs
pub ring_end : (one other : List Cut) (i : ℕ) → length one ≤ i → length one ≡ length other → same_ring (drop i one) (drop i other) ≡ true
ring_end [] [] zero le long = refl
ring_end [] [] (suc i) le long = refl
ring_end [] (b ∷ other) i le long = absurd (omega (arith, long))
ring_end (a ∷ one) other zero le long = absurd (omega (arith, le))
ring_end (a ∷ one) [] (suc i) le long = absurd (omega (arith, long))
ring_end (a ∷ one) (b ∷ other) (suc i) le long = ring_end one other i (omega (arith, le)) (omega (arith, long))
