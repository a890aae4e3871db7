-- Arcs that follow one another once round the circle cover it.
use Rattle.std.proofs.Common.{◌≡◌, ◌≢◌, ℕ, zero, suc, ◌+◌, ◌-◌, ◌%◌, ◌^◌, ◌<◌, ◌≤◌, List, [], ◌∷◌, length, get_or, inl, inr, refl, sym, ◌∙◌, ap, subst, arith}
use Rattle.std.specs.Prelude.{AllPairs, IsTrue, map, ◌⊎◌}
use Rattle.std.proofs.lemmas.Bool.{cases_lt, lt-ltb, ltb-true}
use Rattle.sc_base.specs.Definitions.{Among, Arc, IsArc, holds, offset}
use Rattle.sc_node_table.specs.Values.{Base}
use Rattle.sc_meaning.specs.declared.entries.Cut.{Cut}
use Rattle.sc_meaning.specs.entries.EntryDefinitions.{Covers, first_cut}
use Rattle.sc_meaning.specs.sound.SoundDefinitions.{AreNamedApart}
use Rattle.sc_words.proofs.PaxosProofs.PaxosLemmas.{Each-among}

-- ---- positions from a start on

-- how far on a position lies where the count goes on past the end of the circle: those below the start come behind it
record LiesAt (start p q : ℕ) : Type 0 where
  low : start ≤ q
  high : q < start + 2 ^ 32
  fact : (q ≡ p) ⊎ (q ≡ p + 2 ^ 32)

lies_at : (start p : ℕ) → start < 2 ^ 32 → p < 2 ^ 32 → (q : ℕ) × LiesAt start p q
lies_at start p fits inside =
    elim (cases_lt p start) [
      | inl lt ↦ (p + 2 ^ 32, record { low = omega arith; high = omega arith; fact = inr refl })
      | inr ge ↦ (p, record { low = ge; high = omega arith; fact = inl refl })
    ]

held_by : (lo len start p q : ℕ) → p < 2 ^ 32 → 1 ≤ len → start ≤ lo → lo < 2 ^ 32 → lo + len ≤ start + 2 ^ 32 → (q ≡ p) ⊎ (q ≡ p + 2 ^ 32) → lo ≤ q → q < lo + len → ((p + 2 ^ 32) - lo) % 2 ^ 32 < len
held_by lo len start p q inside some low high fits (inl e) a b = omega arith
held_by lo len start p q inside some low high fits (inr e) a b = omega arith

holds_by : (lo len start p q : ℕ) → p < 2 ^ 32 → 1 ≤ len → start ≤ lo → lo < 2 ^ 32 → lo + len ≤ start + 2 ^ 32 → start ≤ q → q < start + 2 ^ 32 → (q ≡ p) ⊎ (q ≡ p + 2 ^ 32) → ((p + 2 ^ 32) - lo) % 2 ^ 32 < len → (lo ≤ q) × (q < lo + len)
holds_by lo len start p q inside some low high fits from to (inl e) h = (omega arith, omega arith)
holds_by lo len start p q inside some low high fits from to (inr e) h = (omega arith, omega arith)

-- ---- arcs in a row

-- an arc that lies between the start and once round
pub record IsSpan (start : ℕ) (arc : Arc) : Type 0 where
  pub some : 1 ≤ arc.len
  pub low : start ≤ arc.lo
  pub high : arc.lo < 2 ^ 32
  pub fits : arc.lo + arc.len ≤ start + 2 ^ 32

-- cuts that follow one another from a place on, up to the start
abbrev pub GoRound : ℕ → ℕ → List Cut → Type 0
GoRound start lo [] = lo ≡ start + 2 ^ 32
GoRound start lo (c ∷ cs) = (c.arc.lo ≡ lo) × IsSpan start c.arc × GoRound start (lo + c.arc.len) cs

module _ (start : ℕ) (starts : start < 2 ^ 32) (p q : ℕ) (inside : p < 2 ^ 32) (at : LiesAt start p q) where
  in_span : (arc : Arc) → IsSpan start arc → arc.lo ≤ q → q < arc.lo + arc.len → IsTrue (holds arc p)
  in_span arc s a b = lt-ltb (offset arc p) arc.len (held_by arc.lo arc.len start p q inside s.some s.low s.high s.fits at.fact a b)

  of_span : (arc : Arc) → IsSpan start arc → IsTrue (holds arc p) → (arc.lo ≤ q) × (q < arc.lo + arc.len)
  of_span arc s h = holds_by arc.lo arc.len start p q inside s.some s.low s.high s.fits at.low at.high at.fact (ltb-true (offset arc p) arc.len h)

  one_holds : (lo : ℕ) (cs : List Cut) → GoRound start lo cs → lo ≤ q → (c : Cut) × Among c cs × IsTrue (holds c.arc p)
  one_holds lo [] r a = absurd (let e = r in let high = at.high in omega (arith, e, high))
  one_holds lo (c ∷ cs) r a =
      let e = r.0 in
      elim (cases_lt q (lo + c.arc.len)) [
        | inl b ↦ (c, inl refl, in_span c.arc r.1 (omega arith) (omega arith))
        | inr b ↦ (let k = one_holds (lo + c.arc.len) cs r.2 b in (k.0, inr k.1, k.2))
      ]

  -- later cuts hold what lies further on
  holds_above : (lo : ℕ) (cs : List Cut) → GoRound start lo cs → (c : Cut) → Among c cs → IsTrue (holds c.arc p) → lo ≤ q
  holds_above lo [] r c a h = absurd a
  holds_above lo (x ∷ cs) r c (inl e) h =
      let k = of_span x.arc r.1 (subst (λ (z : Cut). IsTrue (holds z.arc p)) (sym e) h) in let f = r.0 in let g = k.0 in omega arith
  holds_above lo (x ∷ cs) r c (inr a) h = let k = holds_above (lo + x.arc.len) cs r.2 c a h in omega arith

  one_only : (lo : ℕ) (cs : List Cut) → GoRound start lo cs → (c o : Cut) → Among c cs → Among o cs → IsTrue (holds c.arc p) → IsTrue (holds o.arc p) → c ≡ o
  one_only lo [] r c o a b h k = absurd a
  one_only lo (x ∷ cs) r c o (inl e) (inl f) h k = sym e ∙ f
  one_only lo (x ∷ cs) r c o (inl e) (inr b) h k =
      let m = of_span x.arc r.1 (subst (λ (z : Cut). IsTrue (holds z.arc p)) (sym e) h) in
      let n = holds_above (lo + x.arc.len) cs r.2 o b k in
      let f = r.0 in let g = m.1 in absurd (omega arith)
  one_only lo (x ∷ cs) r c o (inr a) (inl f) h k =
      let m = of_span x.arc r.1 (subst (λ (z : Cut). IsTrue (holds z.arc p)) (sym f) k) in
      let n = holds_above (lo + x.arc.len) cs r.2 c a h in
      let e = r.0 in let g = m.1 in absurd (omega arith)
  one_only lo (x ∷ cs) r c o (inr a) (inr b) h k = one_only (lo + x.arc.len) cs r.2 c o a b h k

each_is_arc : (start lo : ℕ) (cs : List Cut) → start < 2 ^ 32 → GoRound start lo cs → (c : Cut) → Among c cs → IsArc c.arc × (c.arc.lo < 2 ^ 32)
each_is_arc start lo [] starts r c a = absurd a
each_is_arc start lo (x ∷ cs) starts r c (inl e) =
    subst (λ (z : Cut). IsArc z.arc × (z.arc.lo < 2 ^ 32)) e (let s = r.1.some in let l = r.1.low in let f = r.1.fits in (record { some = s; most = omega arith }, r.1.high))
each_is_arc start lo (x ∷ cs) starts r c (inr a) = each_is_arc start (lo + x.arc.len) cs starts r.2 c a

-- ---- names

among_cuts : (bases : List Base) (k : ℕ) (d : Cut) → k < length (map first_cut bases) → (b : Base) × Among b bases × (get_or (map first_cut bases) k d ≡ first_cut b)
among_cuts [] k d lt = absurd (omega (arith, lt))
among_cuts (b ∷ bases) zero d lt = (b, inl refl, refl)
among_cuts (b ∷ bases) (suc k) d lt = let r = among_cuts bases k d (omega (arith, lt)) in (r.0, inr r.1, r.2)

cuts_apart : (bases : List Base) → AreNamedApart bases → AllPairs (λ (cut other : Cut). cut.group ≢ other.group) (map first_cut bases)
cuts_apart [] apart i j d below within = absurd (omega (arith, within))
cuts_apart (b ∷ bases) apart i zero d below within = absurd (omega (arith, below))
cuts_apart (b ∷ bases) apart zero (suc j) d below within =
    let r = among_cuts bases j d (omega (arith, within)) in
    λ same. Each-among (λ other. other.core.id ≡ b.core.id → ⊥) bases r.0 apart.0 r.1 (sym (same ∙ ap (λ (c : Cut). c.group) r.2))
cuts_apart (b ∷ bases) apart (suc i) (suc j) d below within = cuts_apart bases apart.1 i j d (omega (arith, below)) (omega (arith, within))

-- groups with names of their own whose arcs go round the circle
pub round_covers : (start : ℕ) (bases : List Base) → start < 2 ^ 32 → GoRound start start (map first_cut bases) → AreNamedApart bases → Covers (map first_cut bases)
round_covers start bases starts r apart = record {
  arcs = each_is_arc start start (map first_cut bases) starts r;
  some = λ p inside. (let at = lies_at start p starts inside in one_holds start starts p at.0 inside at.1 start (map first_cut bases) r at.1.low);
  only = λ p inside c o a b h k. (let at = lies_at start p starts inside in one_only start starts p at.0 inside at.1 start (map first_cut bases) r c o a b h k);
  apart = cuts_apart bases apart;
}
