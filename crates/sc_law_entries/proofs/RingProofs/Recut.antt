-- Two cuts cut anew.
use Rattle.std.proofs.Common.{◌≡◌, ℕ, ◌+◌, ◌^◌, ◌<◌, ◌≤◌, inl, inr, Option, Some, None, refl, sym, ◌∙◌, subst, arith}
use Rattle.sc_base.specs.Definitions.{Arc, end_of, before, from, joined}
use Rattle.sc_law_entries.proofs.RingProofs.View.{IsOnRing, Holds, HeldBy, Ring, CoversBy, View, IsLinked, split_view, merge_view, move_view}
use Rattle.sc_base.specs.declared.names.Draw.{Draw}
use Rattle.sc_law_entries.specs.ring.RingDefinitions.{put}
use Rattle.sc_law_entries.proofs.RingProofs.Arcs.{to_parts, from_left, from_right, not_both, left_is, right_is, from_joined, to_joined, end_left, end_right, end_joined}
use Rattle.sc_law_entries.proofs.RingProofs.Cover.{IsRecut, covers_edit}
use Rattle.sc_law_entries.proofs.RingProofs.Links.{differ, IsPair, pair_meets, linked_split, linked_merge, linked_move}
use Rattle.std.proofs.lemmas.Option.{none-some, same_Some}

is_arc : (a b : Arc) → IsOnRing a → Some a ≡ Some b → IsOnRing b
is_arc a b k e = subst IsOnRing (same_Some a b e) k

pub covers_recut : (ring : Ring) (x : Draw) (a c : Option Arc) (y : Draw) (b d : Option Arc) → CoversBy ring → (x ≡ y → ⊥) → ring x ≡ a → ring y ≡ b → IsRecut a b c d → CoversBy (put (put ring x c) y d)
covers_recut ring x a c y b d v ne e f r = covers_edit ring x c y d v ne (subst (λ k. IsRecut k (ring y) c d) (sym e) (subst (λ k. IsRecut a k c d) (sym f) r))

split_recut : (arc : Arc) (place : ℕ) → IsOnRing arc → place < 2 ^ 32 → Holds arc place → (place ≡ arc.lo → ⊥) → IsRecut (Some arc) None (Some (before arc place)) (Some (from arc place))
split_recut arc place ok fits held inside = record {
  first = λ x e. is_arc (before arc place) x (left_is arc place ok fits held inside) e;
  second = λ x e. is_arc (from arc place) x (right_is arc place ok fits held) e;
  to_a = λ p q h. to_parts arc place p ok fits q held h;
  to_b = λ p q h. absurd h;
  from_c = λ p q h. inl (from_left arc place p held h);
  from_d = λ p q h. inl (from_right arc place p ok fits q held h);
  apart = λ p q h k. not_both arc place p ok fits q held h k;
}

-- what two cuts in line bring
pub record IsSeam (arc its : Arc) : Type 0 where
  pub left : IsOnRing arc
  pub right : IsOnRing its
  pub meet : its.lo ≡ end_of arc
  pub room : arc.len + its.len ≤ 2 ^ 32
  pub apart : (p : ℕ) → p < 2 ^ 32 → Holds arc p → Holds its p → ⊥

joined_is : (arc its : Arc) → IsOnRing arc → arc.len + its.len ≤ 2 ^ 32 → IsOnRing (joined arc its)
joined_is arc its k room = let s = k.some in record { lo_fits = k.lo_fits; some = omega arith; len_fits = room }

held_joined : (arc its : Arc) (p : ℕ) → Holds arc p → Holds (joined arc its) p
held_joined arc its p h = omega (arith, h)

merge_recut : (arc its : Arc) → IsSeam arc its → IsRecut (Some arc) (Some its) (Some (joined arc its)) None
merge_recut arc its s = record {
  first = λ x e. is_arc (joined arc its) x (joined_is arc its s.left s.room) e;
  second = λ x e. absurd (none-some x e);
  to_a = λ p q h. inl (held_joined arc its p h);
  to_b = λ p q h. inl (to_joined arc its p s.left q s.meet s.room h);
  from_c = λ p q h. from_joined arc its p s.left q s.meet h;
  from_d = λ p q h. absurd h;
  apart = λ p q h k. k;
}

-- the boundary moves into the first arc
left_recut : (arc its : Arc) (place : ℕ) → IsSeam arc its → place < 2 ^ 32 → Holds arc place → (place ≡ arc.lo → ⊥)
    → IsRecut (Some arc) (Some its) (Some (before arc place)) (Some (joined (from arc place) its))
left_recut arc its place s fits held inside =
    let r = from arc place in
    let ok = right_is arc place s.left fits held in
    let meet : its.lo ≡ end_of r = s.meet ∙ sym (end_right arc place s.left fits held) in
    let room : r.len + its.len ≤ 2 ^ 32 = (let k = s.room in omega arith) in
    record {
      first = λ x e. is_arc (before arc place) x (left_is arc place s.left fits held inside) e;
      second = λ x e. is_arc (joined r its) x (joined_is r its ok room) e;
      to_a = λ p q h. elim (to_parts arc place p s.left fits q held h) [ inl k ↦ inl k | inr k ↦ inr (held_joined r its p k) ];
      to_b = λ p q h. inr (to_joined r its p ok q meet room h);
      from_c = λ p q h. inl (from_left arc place p held h);
      from_d = λ p q h. elim (from_joined r its p ok q meet h) [ inl k ↦ inl (from_right arc place p s.left fits q held k) | inr k ↦ inr k ];
      apart = λ p q h k. elim (from_joined r its p ok q meet k) [ inl m ↦ not_both arc place p s.left fits q held h m | inr m ↦ s.apart p q (from_left arc place p held h) m ];
    }

-- the boundary moves into the second
right_recut : (arc its : Arc) (place : ℕ) → IsSeam arc its → place < 2 ^ 32 → Holds its place → (place ≡ its.lo → ⊥)
    → IsRecut (Some arc) (Some its) (Some (joined arc (before its place))) (Some (from its place))
right_recut arc its place s fits held inside =
    let l = before its place in
    let room : arc.len + l.len ≤ 2 ^ 32 = (let k = s.room in let h = held in omega arith) in
    record {
      first = λ x e. is_arc (joined arc l) x (joined_is arc l s.left room) e;
      second = λ x e. is_arc (from its place) x (right_is its place s.right fits held) e;
      to_a = λ p q h. inl (held_joined arc l p h);
      to_b = λ p q h. elim (to_parts its place p s.right fits q held h) [ inl k ↦ inl (to_joined arc l p s.left q s.meet room k) | inr k ↦ inr k ];
      from_c = λ p q h. elim (from_joined arc l p s.left q s.meet h) [ inl k ↦ inl k | inr k ↦ inr (from_left its place p held k) ];
      from_d = λ p q h. inr (from_right its place p s.right fits q held h);
      apart = λ p q h k. elim (from_joined arc l p s.left q s.meet h) [ inl m ↦ s.apart p q m (from_right its place p s.right fits q held k) | inr m ↦ not_both its place p s.right fits q held m k ];
    }

-- ---- the laws of the view

abbrev pub IsWhole : View → Type 0
IsWhole v = CoversBy v.arc × IsLinked v

pub split_whole : (v : View) (g : Draw) (arc : Arc) (place : ℕ) (child : Draw) → IsWhole v → v.arc g ≡ Some arc → v.arc child ≡ None → place < 2 ^ 32 → Holds arc place → (place ≡ arc.lo → ⊥)
    → IsWhole (split_view v g arc place child)
split_whole v g arc place child w fact free fits held inside =
    let ok = w.0.arcs g arc fact in (
      covers_recut v.arc g (Some arc) (Some (before arc place)) child None (Some (from arc place)) w.0 (differ v.arc g child arc fact free) fact free (split_recut arc place ok fits held inside),
      linked_split v g arc place child w.1 ok fact free fits held,
    )

seam_of : (v : View) (g p : Draw) (arc its : Arc) → IsWhole v → IsPair v g p arc its → arc.len + its.len ≤ 2 ^ 32 → IsSeam arc its
seam_of v g p arc its w k room = record {
  left = w.0.arcs g arc k.first;
  right = w.0.arcs p its k.second;
  meet = pair_meets v g p arc its w.1 k;
  room = room;
  apart = λ q f a b. k.apart (w.0.only q g p f (subst (λ o. HeldBy o q) (sym k.first) a) (subst (λ o. HeldBy o q) (sym k.second) b));
}

pub merge_whole : (v : View) (g p : Draw) (arc its : Arc) → IsWhole v → IsPair v g p arc its → arc.len + its.len ≤ 2 ^ 32 → IsWhole (merge_view v g arc p its)
merge_whole v g p arc its w k room =
    (covers_recut v.arc g (Some arc) (Some (joined arc its)) p (Some its) None w.0 k.apart k.first k.second (merge_recut arc its (seam_of v g p arc its w k room)), linked_merge v g p arc its w.1 k)

pub left_whole : (v : View) (g p : Draw) (arc its : Arc) (place : ℕ) → IsWhole v → IsPair v g p arc its → arc.len + its.len ≤ 2 ^ 32 → place < 2 ^ 32 → Holds arc place → (place ≡ arc.lo → ⊥)
    → IsWhole (move_view v g (before arc place) p (joined (from arc place) its))
left_whole v g p arc its place w k room fits held inside =
    let s = seam_of v g p arc its w k room in (
      covers_recut v.arc g (Some arc) (Some (before arc place)) p (Some its) (Some (joined (from arc place) its)) w.0 k.apart k.first k.second (left_recut arc its place s fits held inside),
      linked_move v g p arc its (before arc place) (joined (from arc place) its) w.1 k refl (end_left arc place s.left fits)
          (end_joined (from arc place) its (s.meet ∙ sym (end_right arc place s.left fits held))),
    )

pub right_whole : (v : View) (g p : Draw) (arc its : Arc) (place : ℕ) → IsWhole v → IsPair v g p arc its → arc.len + its.len ≤ 2 ^ 32 → place < 2 ^ 32 → Holds its place → (place ≡ its.lo → ⊥)
    → IsWhole (move_view v g (joined arc (before its place)) p (from its place))
right_whole v g p arc its place w k room fits held inside =
    let s = seam_of v g p arc its w k room in (
      covers_recut v.arc g (Some arc) (Some (joined arc (before its place))) p (Some its) (Some (from its place)) w.0 k.apart k.first k.second (right_recut arc its place s fits held inside),
      linked_move v g p arc its (joined arc (before its place)) (from its place) w.1 k refl
          (end_left its place s.right fits ∙ sym (end_joined arc (before its place) s.meet))
          (end_right its place s.right fits held),
    )
