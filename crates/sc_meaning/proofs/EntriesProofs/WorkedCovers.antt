-- Rings that cover, and rings that do not: one cut of the whole ring, two that meet at both ends; one with a gap, two on one arc.
use Rattle.std.proofs.Common.{◌≡◌, ◌≢◌, ℕ, zero, suc, ◌+◌, ◌^◌, ◌<◌, Bool, true, false, ◌||◌, ◌&&◌, ◌⊎◌, [], ◌∷◌, refl, sym, ◌∙◌, ap, subst, inl, inr, eqb, arith}
use Rattle.std.specs.Prelude.{AllPairs, IsTrue}
use Rattle.std.proofs.lemmas.Bool.{eq-eqb, lt-ltb}
use Rattle.sc_base.specs.Definitions.{Arc, IsArc, CanJoin, holds, offset, joined}
use Rattle.sc_base.specs.declared.names.Draw.{Draw}
use Rattle.sc_base.proofs.Lemmas.{joins_hold}
use Rattle.sc_meaning.specs.declared.entries.Cut.{Cut}
use Rattle.sc_meaning.specs.entries.EntryDefinitions.{Covers}
use Rattle.sc_meaning.proofs.EntriesProofs.Worked.{draw, cut}

-- an arc of the whole ring holds each position
all_held : (arc : Arc) → arc.lo < 2 ^ 32 → arc.len ≡ 2 ^ 32 → (p : ℕ) → p < 2 ^ 32 → IsTrue (holds arc p)
all_held arc lo_fits whole p fits = lt-ltb (offset arc p) arc.len (omega arith)

-- one of two tests
pub one_of : (a b : Bool) → (a || b) ≡ true → (a ≡ true) ⊎ (b ≡ true)
one_of true b t = inl refl
one_of false b t = inr t

not_both : (a b : Bool) → (a && b) ≡ false → a ≡ true → b ≡ true → ⊥
not_both true true differ s t = (let no_way : true ≡ false = differ in cc)
not_both true false differ s t = (let no_way : false ≡ true = t in cc)
not_both false b differ s t = (let no_way : false ≡ true = s in cc)

-- two numbers that a test tells apart
apart_numbers : (a b : ℕ) → eqb a b ≡ false → a ≡ b → ⊥
apart_numbers a b differ same = (let no_way = sym differ ∙ eq-eqb a b same in cc)

-- two cuts that meet at both ends make a ring that covers
record Meet (a b : Cut) : Type 0 where
  pub first : IsArc a.arc
  pub second : IsArc b.arc
  pub first_fits : a.arc.lo < 2 ^ 32
  pub second_fits : b.arc.lo < 2 ^ 32
  pub can : CanJoin a.arc b.arc
  pub whole : a.arc.len + b.arc.len ≡ 2 ^ 32
  pub groups : a.group ≢ b.group

groups_apart : (a b : Cut) → a.group ≢ b.group → AllPairs (λ (one other : Cut). one.group ≢ other.group) (a ∷ b ∷ [])
groups_apart a b ne zero zero d below within = absurd (omega arith)
groups_apart a b ne zero (suc zero) d below within = ne
groups_apart a b ne zero (suc (suc j)) d below within = absurd (omega arith)
groups_apart a b ne (suc i) zero d below within = absurd (omega arith)
groups_apart a b ne (suc i) (suc zero) d below within = absurd (omega arith)
groups_apart a b ne (suc i) (suc (suc j)) d below within = absurd (omega arith)

both_cover : (a b : Cut) → Meet a b → Covers (a ∷ b ∷ [])
both_cover a b meet =
    let join = joins_hold a.arc b.arc meet.first_fits meet.first meet.second meet.can in
    record {
      arcs = λ one among. elim among [
        | inl e ↦ subst (λ (c : Cut). IsArc c.arc × (c.arc.lo < 2 ^ 32)) e (meet.first, meet.first_fits)
        | inr more ↦ elim more [
          | inl e ↦ subst (λ (c : Cut). IsArc c.arc × (c.arc.lo < 2 ^ 32)) e (meet.second, meet.second_fits)
          | inr none ↦ absurd none
        ]
      ];
      some = λ p fits. elim (one_of (holds a.arc p) (holds b.arc p) (sym (join.both p) ∙ all_held (joined a.arc b.arc) meet.first_fits meet.whole p fits)) [
        | inl t ↦ (a, inl refl, t)
        | inr t ↦ (b, inr (inl refl), t)
      ];
      only = λ p fits one other among among' t t'. elim among [
        | inl e ↦ elim among' [
          | inl f ↦ sym e ∙ f
          | inr more ↦ elim more [
            | inl f ↦ absurd (not_both (holds a.arc p) (holds b.arc p) (join.apart p) (subst (λ (c : Cut). holds c.arc p ≡ true) (sym e) t) (subst (λ (c : Cut). holds c.arc p ≡ true) (sym f) t'))
            | inr none ↦ absurd none
          ]
        ]
        | inr rest ↦ elim rest [
          | inl e ↦ elim among' [
            | inl f ↦ absurd (not_both (holds a.arc p) (holds b.arc p) (join.apart p) (subst (λ (c : Cut). holds c.arc p ≡ true) (sym f) t') (subst (λ (c : Cut). holds c.arc p ≡ true) (sym e) t))
            | inr more ↦ elim more [
              | inl f ↦ sym e ∙ f
              | inr none ↦ absurd none
            ]
          ]
          | inr none ↦ absurd none
        ]
      ];
      apart = groups_apart a b meet.groups;
    }

-- the ring of two groups whose boundary has moved
moved_covers : Covers (cut 0 1677721600 (draw 0 1) ∷ cut 1677721600 2617245696 (draw 0 2) ∷ [])
moved_covers = both_cover (cut 0 1677721600 (draw 0 1)) (cut 1677721600 2617245696 (draw 0 2)) (record {
  first = record { some = omega arith; most = omega arith };
  second = record { some = omega arith; most = omega arith };
  first_fits = omega arith;
  second_fits = omega arith;
  can = (refl, omega arith);
  whole = refl;
  groups = λ e. apart_numbers 1 2 refl (ap (λ (d : Draw). d.count) e);
})

-- a gap: no cut holds the position 7
gap_is_not : Covers (cut 0 5 (draw 0 1) ∷ []) → ⊥
gap_is_not covers = elim (covers.some 7 (omega arith)).1 [
  | inl e ↦ (let held : false ≡ true = subst (λ (c : Cut). holds c.arc 7 ≡ true) (sym e) (covers.some 7 (omega arith)).2 in cc)
  | inr none ↦ absurd none
]

-- two groups on one arc
overlap_is_not : Covers (cut 0 4294967296 (draw 0 1) ∷ cut 0 4294967296 (draw 0 2) ∷ []) → ⊥
overlap_is_not covers =
    let same = covers.only 0 (omega arith) (cut 0 4294967296 (draw 0 1)) (cut 0 4294967296 (draw 0 2)) (inl refl) (inr (inl refl)) refl refl in
    apart_numbers 1 2 refl (ap (λ (c : Cut). c.group.count) same)
