-- Arcs, as arithmetic round the circle.
use Rattle.std.proofs.Common.{◌≡◌, ℕ, ◌+◌, ◌-◌, ◌%◌, ◌^◌, ◌<◌, ◌≤◌, ◌⊎◌, inl, inr, subst, sym, arith}
use Rattle.std.proofs.lemmas.Bool.{cases_lt}
use Rattle.sc_base.specs.Definitions.{Arc, end_of, before, from, joined}
use Rattle.sc_law_entries.proofs.RingProofs.View.{IsOnRing, Holds}

-- how far a position lies behind another, in two cases
abbrev away : ℕ → ℕ → ℕ
away lo p = ((p + 2 ^ 32) - lo) % 2 ^ 32

-- from lo over at to p
pub three : (lo at p : ℕ) → lo < 2 ^ 32 → at < 2 ^ 32 → p < 2 ^ 32
    → ((away lo p < away lo at) × (away at p ≡ (away lo p + 2 ^ 32) - away lo at)) ⊎ ((away lo at ≤ away lo p) × (away at p ≡ away lo p - away lo at))
three lo at p a b c = elim (cases_lt (away lo p) (away lo at)) [ inl lt ↦ inl (lt, omega arith) | inr ge ↦ inr (ge, omega arith) ]

-- ---- a split

pub to_parts : (arc : Arc) (at p : ℕ) → IsOnRing arc → at < 2 ^ 32 → p < 2 ^ 32 → Holds arc at → Holds arc p → Holds (before arc at) p ⊎ Holds (from arc at) p
to_parts arc at p a fits q held h =
    elim (three arc.lo at p a.lo_fits fits q) [ inl k ↦ inl k.0 | inr k ↦ inr (omega (arith, k.0, k.1, h)) ]

pub from_left : (arc : Arc) (at p : ℕ) → Holds arc at → Holds (before arc at) p → Holds arc p
from_left arc at p held h = omega (arith, held, h)

pub from_right : (arc : Arc) (at p : ℕ) → IsOnRing arc → at < 2 ^ 32 → p < 2 ^ 32 → Holds arc at → Holds (from arc at) p → Holds arc p
from_right arc at p a fits q held h =
    elim (three arc.lo at p a.lo_fits fits q) [ inl k ↦ absurd (omega (arith, k.0, k.1, h, a.len_fits)) | inr k ↦ omega (arith, k.0, k.1, h) ]

pub not_both : (arc : Arc) (at p : ℕ) → IsOnRing arc → at < 2 ^ 32 → p < 2 ^ 32 → Holds arc at → Holds (before arc at) p → Holds (from arc at) p → ⊥
not_both arc at p a fits q held h k =
    elim (three arc.lo at p a.lo_fits fits q) [ inl m ↦ omega (arith, m.0, m.1, k, a.len_fits) | inr m ↦ omega (arith, m.0, h) ]

inner : (lo at : ℕ) → lo < 2 ^ 32 → at < 2 ^ 32 → (at ≡ lo → ⊥) → 0 < away lo at
inner lo at a b ne = omega arith

pub left_is : (arc : Arc) (at : ℕ) → IsOnRing arc → at < 2 ^ 32 → Holds arc at → (at ≡ arc.lo → ⊥) → IsOnRing (before arc at)
left_is arc at a fits held ne = record { lo_fits = a.lo_fits; some = inner arc.lo at a.lo_fits fits ne; len_fits = omega (arith, held, a.len_fits) }

pub right_is : (arc : Arc) (at : ℕ) → IsOnRing arc → at < 2 ^ 32 → Holds arc at → IsOnRing (from arc at)
right_is arc at a fits held = record { lo_fits = fits; some = omega (arith, held); len_fits = omega (arith, a.len_fits) }

-- ---- a merge

-- from lo over its end to p
seam : (lo len p : ℕ) → lo < 2 ^ 32 → p < 2 ^ 32 → len ≤ 2 ^ 32
    → ((away lo p < len) × (away ((lo + len) % 2 ^ 32) p ≡ (away lo p + 2 ^ 32) - len)) ⊎ ((len ≤ away lo p) × (away ((lo + len) % 2 ^ 32) p ≡ away lo p - len))
seam lo len p a b c = elim (cases_lt (away lo p) len) [ inl lt ↦ inl (lt, omega arith) | inr ge ↦ inr (ge, omega arith) ]

pub from_joined : (arc next : Arc) (p : ℕ) → IsOnRing arc → p < 2 ^ 32 → next.lo ≡ end_of arc → Holds (joined arc next) p → Holds arc p ⊎ Holds next p
from_joined arc next p a q e h =
    elim (seam arc.lo arc.len p a.lo_fits q a.len_fits) [
      | inl k ↦ inl k.0
      | inr k ↦ inr (let P : ℕ → Type 0 = λ lo. away lo p < next.len in subst P (sym e) (omega (arith, k.0, k.1, h)))
    ]

pub to_joined : (arc next : Arc) (p : ℕ) → IsOnRing arc → p < 2 ^ 32 → next.lo ≡ end_of arc → arc.len + next.len ≤ 2 ^ 32 → Holds next p → Holds (joined arc next) p
to_joined arc next p a q e fits h =
    let P : ℕ → Type 0 = λ lo. away lo p < next.len in
    let k : away (end_of arc) p < next.len = subst P e h in
    elim (seam arc.lo arc.len p a.lo_fits q a.len_fits) [ inl m ↦ absurd (omega (arith, m.0, m.1, k)) | inr m ↦ omega (arith, m.0, m.1, k) ]

-- ---- ends

pub end_left : (arc : Arc) (place : ℕ) → IsOnRing arc → place < 2 ^ 32 → place ≡ end_of (before arc place)
end_left arc place a q = let f = a.lo_fits in omega arith

pub end_right : (arc : Arc) (place : ℕ) → IsOnRing arc → place < 2 ^ 32 → Holds arc place → end_of (from arc place) ≡ end_of arc
end_right arc place a q h = let f = a.lo_fits in let k = a.len_fits in omega arith

pub end_joined : (arc its : Arc) → its.lo ≡ end_of arc → end_of (joined arc its) ≡ end_of its
end_joined arc its e = omega arith
