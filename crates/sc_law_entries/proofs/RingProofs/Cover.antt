-- A ring with two places edited covers where the two hold together what they held before.
use Rattle.std.proofs.Common.{◌≡◌, ℕ, ◌^◌, ◌<◌, ◌⊎◌, inl, inr, Option, Some, refl, sym, ◌∙◌, ap, subst}
use Rattle.std.proofs.lemmas.Bool.{cond-true, cond-false}
use Rattle.sc_base.specs.Definitions.{same_draw, Arc}
use Rattle.sc_base.specs.declared.names.Draw.{Draw}
use Rattle.sc_base.proofs.Lemmas.{same_name}
use Rattle.sc_law_entries.specs.ring.RingDefinitions.{put}
use Rattle.sc_meaning.proofs.EntriesProofs.EntryLemmas.{draw_cases, other_name}
use Rattle.sc_law_entries.proofs.RingProofs.View.{IsOnRing, HeldBy, Ring, CoversBy}

pub at-same : {X : Type 0} (f : Draw → X) (g : Draw) (x : X) → put f g x g ≡ x
at-same f g x = cond-true (same_draw g g) x (f g) (same_name g g refl)

pub at-is : {X : Type 0} (f : Draw → X) (g : Draw) (x : X) (h : Draw) → h ≡ g → put f g x h ≡ x
at-is f g x h e = cond-true (same_draw h g) x (f h) (same_name h g e)

pub at-other : {X : Type 0} (f : Draw → X) (g : Draw) (x : X) (h : Draw) → (h ≡ g → ⊥) → put f g x h ≡ f h
at-other f g x h ne = cond-false (same_draw h g) x (f h) (other_name h g ne)

pub from_at : {X : Type 0} (f : Draw → X) (g : Draw) (x : X) (h : Draw) (y : X) → put f g x h ≡ y → ((h ≡ g) × (x ≡ y)) ⊎ ((h ≡ g → ⊥) × (f h ≡ y))
from_at f g x h y e =
    elim (draw_cases h g) [
      | inl p ↦ inl (p, sym (at-is f g x h p) ∙ e)
      | inr p ↦ inr (p, sym (at-other f g x h p) ∙ e)
    ]

-- the arcs of two places, before and after
pub record IsRecut (a b c d : Option Arc) : Type 0 where
  pub first : (arc : Arc) → c ≡ Some arc → IsOnRing arc
  pub second : (arc : Arc) → d ≡ Some arc → IsOnRing arc
  pub to_a : (p : ℕ) → p < 2 ^ 32 → HeldBy a p → HeldBy c p ⊎ HeldBy d p
  pub to_b : (p : ℕ) → p < 2 ^ 32 → HeldBy b p → HeldBy c p ⊎ HeldBy d p
  pub from_c : (p : ℕ) → p < 2 ^ 32 → HeldBy c p → HeldBy a p ⊎ HeldBy b p
  pub from_d : (p : ℕ) → p < 2 ^ 32 → HeldBy d p → HeldBy a p ⊎ HeldBy b p
  pub apart : (p : ℕ) → p < 2 ^ 32 → HeldBy c p → HeldBy d p → ⊥

abbrev edited : Ring → Draw → Option Arc → Draw → Option Arc → Ring
edited ring x c y d = put (put ring x c) y d

at_x : (ring : Ring) (x : Draw) (c : Option Arc) (y : Draw) (d : Option Arc) → (x ≡ y → ⊥) → edited ring x c y d x ≡ c
at_x ring x c y d ne = at-other (put ring x c) y d x ne ∙ at-same ring x c

at_y : (ring : Ring) (x : Draw) (c : Option Arc) (y : Draw) (d : Option Arc) → edited ring x c y d y ≡ d
at_y ring x c y d = at-same (put ring x c) y d

at_z : (ring : Ring) (x : Draw) (c : Option Arc) (y : Draw) (d : Option Arc) (h : Draw) → (h ≡ x → ⊥) → (h ≡ y → ⊥) → edited ring x c y d h ≡ ring h
at_z ring x c y d h nx ny = at-other (put ring x c) y d h ny ∙ at-other ring x c h nx

-- who holds a position after the edit: one of the two, or another as before
abbrev After : Ring → Draw → Option Arc → Draw → Option Arc → ℕ → Draw → Type 0
After ring x c y d p h = ((h ≡ x) × HeldBy c p) ⊎ (((h ≡ y) × HeldBy d p) ⊎ ((h ≡ x → ⊥) × (h ≡ y → ⊥) × HeldBy (ring h) p))

after : (ring : Ring) (x : Draw) (c : Option Arc) (y : Draw) (d : Option Arc) → (x ≡ y → ⊥) → (p : ℕ) (h : Draw) → HeldBy (edited ring x c y d h) p → After ring x c y d p h
after ring x c y d ne p h o =
    elim (draw_cases h x) [
      | inl e ↦ inl (e, subst (λ q. HeldBy q p) (ap (edited ring x c y d) e ∙ at_x ring x c y d ne) o)
      | inr nx ↦ elim (draw_cases h y) [
        | inl e ↦ inr (inl (e, subst (λ q. HeldBy q p) (ap (edited ring x c y d) e ∙ at_y ring x c y d) o))
        | inr ny ↦ inr (inr (nx, ny, subst (λ q. HeldBy q p) (at_z ring x c y d h nx ny) o))
      ]
    ]

to_x : (ring : Ring) (x : Draw) (c : Option Arc) (y : Draw) (d : Option Arc) → (x ≡ y → ⊥) → (p : ℕ) → HeldBy c p → HeldBy (edited ring x c y d x) p
to_x ring x c y d ne p o = subst (λ q. HeldBy q p) (sym (at_x ring x c y d ne)) o

to_y : (ring : Ring) (x : Draw) (c : Option Arc) (y : Draw) (d : Option Arc) (p : ℕ) → HeldBy d p → HeldBy (edited ring x c y d y) p
to_y ring x c y d p o = subst (λ q. HeldBy q p) (sym (at_y ring x c y d)) o

pub covers_edit : (ring : Ring) (x : Draw) (c : Option Arc) (y : Draw) (d : Option Arc) → CoversBy ring → (x ≡ y → ⊥) → IsRecut (ring x) (ring y) c d → CoversBy (put (put ring x c) y d)
covers_edit ring x c y d v ne r =
    let lands : (p : ℕ) → HeldBy c p ⊎ HeldBy d p → (g : Draw) × HeldBy (edited ring x c y d g) p =
    λ p o. elim o [ inl k ↦ (x, to_x ring x c y d ne p k) | inr k ↦ (y, to_y ring x c y d p k) ] in
    let stranger : (p : ℕ) (h : Draw) → p < 2 ^ 32 → (h ≡ x → ⊥) → (h ≡ y → ⊥) → HeldBy (ring h) p → HeldBy (ring x) p ⊎ HeldBy (ring y) p → ⊥ =
    λ p h q nx ny o k. elim k [ inl m ↦ nx (v.only p h x q o m) | inr m ↦ ny (v.only p h y q o m) ] in
    record {
      arcs = λ h arc e. elim (draw_cases h x) [
        | inl k ↦ r.first arc (sym (at_x ring x c y d ne) ∙ ap (edited ring x c y d) (sym k) ∙ e)
        | inr nx ↦ elim (draw_cases h y) [
          | inl k ↦ r.second arc (sym (at_y ring x c y d) ∙ ap (edited ring x c y d) (sym k) ∙ e)
          | inr ny ↦ v.arcs h arc (sym (at_z ring x c y d h nx ny) ∙ e)
        ]
      ];
      owner = λ p q. (let o = v.owner p q in elim (draw_cases o.0 x) [
        | inl e ↦ lands p (r.to_a p q (subst (λ h. HeldBy (ring h) p) e o.1))
        | inr nx ↦ elim (draw_cases o.0 y) [
          | inl e ↦ lands p (r.to_b p q (subst (λ h. HeldBy (ring h) p) e o.1))
          | inr ny ↦ (o.0, subst (λ k. HeldBy k p) (sym (at_z ring x c y d o.0 nx ny)) o.1)
        ]
      ]);
      only = λ p h k q a b. elim (after ring x c y d ne p h a) [
        | inl u ↦ elim (after ring x c y d ne p k b) [
          | inl t ↦ u.0 ∙ sym t.0
          | inr m ↦ elim m [ inl t ↦ absurd (r.apart p q u.1 t.1) | inr t ↦ absurd (stranger p k q t.0 t.1 t.2 (r.from_c p q u.1)) ]
        ]
        | inr n ↦ elim n [
          | inl u ↦ elim (after ring x c y d ne p k b) [
            | inl t ↦ absurd (r.apart p q t.1 u.1)
            | inr m ↦ elim m [ inl t ↦ u.0 ∙ sym t.0 | inr t ↦ absurd (stranger p k q t.0 t.1 t.2 (r.from_d p q u.1)) ]
          ]
          | inr u ↦ elim (after ring x c y d ne p k b) [
            | inl t ↦ absurd (stranger p h q u.0 u.1 u.2 (r.from_c p q t.1))
            | inr m ↦ elim m [ inl t ↦ absurd (stranger p h q u.0 u.1 u.2 (r.from_d p q t.1)) | inr t ↦ v.only p h k q u.2 t.2 ]
          ]
        ]
      ];
    }
