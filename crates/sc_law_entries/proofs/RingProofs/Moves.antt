-- A boundary that moves either way, and a member that moves on.
use Rattle.std.specs.Prelude.{not, ◌&&◌, nat_le, ◌==◌, length, ◌∷◌, []}
use Rattle.std.proofs.Common.{◌≡◌, ℕ, ◌+◌, ◌-◌, ◌^◌, ◌<◌, ◌≤◌, true, false, inl, inr, Option, Some, None, refl, sym, ◌∙◌, ap, subst, arith}
use Rattle.std.proofs.lemmas.Bool.{cond-true, cond-false, and_from, and_parts, not_from_false, not-true, eq-eqb, eqb-false, le-leb, ltb-true, ltb-false}
use Rattle.std.specs.FinMap.{entries, empty}
use Rattle.sc_base.specs.Definitions.{Arc, before, from, joined, offset, end_of, holds, united}
use Rattle.sc_base.specs.declared.names.Draw.{Draw}
use Rattle.sc_words.specs.ideal.IdealDefinitions.{part_of, with_pairs}
use Rattle.sc_words.specs.declared.commands.bodies.Body.TheVariants as At
use Rattle.sc_words.specs.declared.commands.votes.Frozen.{Frozen}
use Rattle.sc_words.specs.declared.commands.votes.Outcome.{Outcome}
use Rattle.sc_words.specs.declared.commands.votes.Outcome.TheVariants.{Moved, Migrated}
use Rattle.sc_words.specs.declared.commands.votes.Vote.TheVariants as Ballot
use Rattle.sc_group_table.specs.machine.MachineDefinitions.{Group, can_gain, gained_group, lost_group, welcomed_group, participant_after, party_freed, can_cut, can_join, has_key_of, part_gift, giving_group, taking_group, migrated_group, decided_group}
use Rattle.sc_law_entries.specs.ring.RingDefinitions.{Story, Stories, put, Groups}
use Rattle.sc_meaning.proofs.EntriesProofs.EntryLemmas.{draw_cases}
use Rattle.sc_law_entries.proofs.RingProofs.View.{Ring, Holds, move_view}
use Rattle.sc_law_entries.proofs.RingProofs.Arcs.{end_right, right_is, left_is}
use Rattle.sc_law_entries.proofs.RingProofs.Links.{IsPair, pair_meets}
use Rattle.sc_law_entries.proofs.RingProofs.Recut.{IsWhole, left_whole, right_whole}
use Rattle.sc_law_entries.proofs.RingProofs.Effects.{arc_of, succ_of, pred_of, pairs_of, view_of, Good, whole_agree, Old, alike_same, good_alike}
use Rattle.sc_law_entries.proofs.RingProofs.Insides.{InsideOf, inside_part, inside_with, outside_joined, outside_next, no_shared, room_of, from_first, before_second, from_second}
use Rattle.sc_law_entries.proofs.RingProofs.CommittedViews.{ring_move, ring_out, turned, IsDeciding, New, mine_old, part_eff, moved_agrees, moved_inside, apart_of, ring_at, both_are, same_ring}
use Rattle.sc_law_entries.proofs.RingProofs.Reshapes.{Ends, part_is, moved_commit}

-- a place inside an arc
pub record IsCut (arc : Arc) (at : ℕ) : Type 0 where
  pub held : Holds arc at
  pub inside : at ≡ arc.lo → ⊥

pub cut_is : (arc : Arc) (at : ℕ) → can_cut arc at ≡ true → IsCut arc at
cut_is arc at e =
    let p = and_parts (holds arc at) (not (at == arc.lo)) e in
    record { held = ltb-true (offset arc at) arc.len p.0; inside = eqb-false at arc.lo (not-true (at == arc.lo) p.1) }

pub less_room : (a b o : ℕ) → a + b ≤ 2 ^ 32 → o < a → (a - o) + b ≤ 2 ^ 32
less_room a b o r h = omega (arith, r, h)

pub part_room : (a b o : ℕ) → a + b ≤ 2 ^ 32 → o < b → a + o ≤ 2 ^ 32
part_room a b o r h = omega (arith, r, h)

module _ (owner : Draw → Option Draw) (ring : Ring) (gs : Groups) (ys : Stories) (g : Draw) (s : Group) (tx : Draw) (at : ℕ) (y : Story) (d : IsDeciding owner gs ys g s tx (At.Repart at) None y) (fz : Frozen) (vote : y.vote ≡ Some (Ballot.Yes fz)) where
  -- the boundary moves into the coordinator's arc
  pub give_commit : at < 2 ^ 32 → can_cut s.core.arc at ≡ true → holds s.core.arc at ≡ true → Good ring (Old gs ys)
      → (let o = Moved at (Some (part_gift s at)) in Good (ring_out (Some o) ring g s.core.succ.group) (New gs ys g (decided_group (giving_group s at fz) tx o) tx (Ends y o)))
  give_commit fits cut here w =
      let o : Outcome = Moved at (Some (part_gift s at)) in
      let s' = decided_group (giving_group s at fz) tx o in
      let y' = Ends y o in
      let p = part_is owner ring gs ys g s tx (At.Repart at) y d fz vote refl in
      let f = p.frozen.group in
      let offer = p.frozen.offer in
      let n = offer.part in
      let b0 = gained_group f offer at (part_gift s at) in
      let b = party_freed b0 tx in
      let q = part_eff owner gs ys g s tx (At.Repart at) None y d s' y' o fz p.frozen (λ e. p.apart (sym e)) refl refl in
      let mine = mine_old owner gs ys g s tx (At.Repart at) None y d in
      let v = view_of (Old gs ys) in
      let pair : IsPair v g n s.core.arc f.core.arc = record { first = ap arc_of mine; second = ap arc_of q.0; line = ap succ_of mine ∙ p.line; apart = p.apart } in
      let ok = w.0.0.arcs g s.core.arc pair.first in
      let its = w.0.0.arcs n f.core.arc pair.second in
      let meet = pair_meets v g n s.core.arc f.core.arc w.0.1 pair in
      let room = room_of s.core.arc f.core.arc ok its meet (apart_of (Old gs ys) g n s f w.0 mine q.0 p.apart) in
      let c = cut_is s.core.arc at cut in
      let rest = from s.core.arc at in
      let rok = right_is s.core.arc at ok fits c.held in
      let rmeet : f.core.arc.lo ≡ end_of rest = meet ∙ sym (end_right s.core.arc at ok fits c.held) in
      let rroom = less_room s.core.arc.len f.core.arc.len (offset s.core.arc at) room c.held in
      let fine : can_gain f.core offer at ≡ true = subst (λ a. (can_cut a at && can_join (from a at) f.core.arc) ≡ true) p.arc
      (and_from (can_cut s.core.arc at) (can_join rest f.core.arc) cut (and_from (f.core.arc.lo == end_of rest) (nat_le (rest.len + f.core.arc.len) (2 ^ 32)) (eq-eqb f.core.arc.lo (end_of rest) rmeet) (le-leb (rest.len + f.core.arc.len) (2 ^ 32) rroom))) in
      let free = no_shared f.core.arc rest f.pairs (part_of rest s.pairs) (w.1 n f q.0) (inside_part rest s.pairs) (λ key h. outside_next rest f.core.arc rok its rmeet rroom key h) in
      let after : participant_after o f offer ≡ Some b0 = cond-true (can_gain f.core offer at && not (has_key_of f.pairs (part_gift s at).pairs)) (Some b0) None
      (and_from (can_gain f.core offer at) (not (has_key_of f.pairs (part_gift s at).pairs)) fine (not_from_false (has_key_of f.pairs (part_gift s at).pairs) free)) in
      let k = moved_commit owner ring gs ys g s tx (At.Repart at) y d fz o s' b0 p refl refl refl refl after refl (refl, refl, refl, refl) in
      let ma : s'.core.arc ≡ before s.core.arc at = cond-true (holds s.core.arc at) (before s.core.arc at) (joined s.core.arc (before fz.arc at)) here in
      let ba : b.core.arc ≡ joined rest f.core.arc = ap (λ a. joined (from a at) f.core.arc) (sym p.arc) in
      let agrees = moved_agrees (Old gs ys) (New gs ys g s' tx y') g n s f s' b k in
      let whole = joined s.core.arc f.core.arc in (
        whole_agree (move_view v g s'.core.arc n b.core.arc) (view_of (New gs ys g s' tx y')) agrees
            (subst (λ x. IsWhole (move_view v g x n b.core.arc)) (sym ma) (subst (λ x. IsWhole (move_view v g (before s.core.arc at) n x)) (sym ba) (left_whole v g n s.core.arc f.core.arc at w.0 pair room fits c.held c.inside))),
        moved_inside (Old gs ys) (New gs ys g s' tx y') g n s f s' b k w.1
            (subst (λ a. InsideOf a (part_of (before s.core.arc at) s.pairs)) (sym ma) (inside_part (before s.core.arc at) s.pairs))
            (subst (λ a. InsideOf a b.pairs) (sym ba) (inside_with (joined rest f.core.arc) f.core.arc rest f.pairs (part_of rest s.pairs)
            (λ key out. (let r = outside_joined rest f.core.arc rok its rmeet rroom key out in (r.1, r.0))) (w.1 n f q.0) (inside_part rest s.pairs))),
        λ h. ap (λ z. ring_out (Some o) ring g z h) p.line
            ∙ ap (λ z. ring_move at z ring g n h) (both_are (ring g) (ring n) s.core.arc f.core.arc (ring_at ring (Old gs ys) g s w mine) (ring_at ring (Old gs ys) n f w q.0))
            ∙ turned ring g n (Some (before whole at)) (Some (from whole at)) p.apart h
            ∙ ap (λ (r : Ring). put (put r g (Some (before s.core.arc at))) n (Some (from whole at)) h) (same_ring ring (Old gs ys) w)
            ∙ ap (λ x. put (put v.arc g (Some (before s.core.arc at))) n (Some x) h) (from_first s.core.arc f.core.arc at c.held ∙ sym ba)
            ∙ ap (λ x. put (put v.arc g (Some x)) n (Some b.core.arc) h) (sym ma)
            ∙ agrees.arcs h,
      )

  -- the boundary moves into the participant's arc
  pub take_commit : at < 2 ^ 32 → can_cut fz.arc at ≡ true → holds s.core.arc at ≡ false → Good ring (Old gs ys)
      → (let o = Moved at None in Good (ring_out (Some o) ring g s.core.succ.group) (New gs ys g (decided_group (taking_group s at fz) tx o) tx (Ends y o)))
  take_commit fits cut there w =
      let o : Outcome = Moved at None in
      let s' = decided_group (taking_group s at fz) tx o in
      let y' = Ends y o in
      let p = part_is owner ring gs ys g s tx (At.Repart at) y d fz vote refl in
      let f = p.frozen.group in
      let n = p.frozen.offer.part in
      let b0 = lost_group f at in
      let b = party_freed b0 tx in
      let q = part_eff owner gs ys g s tx (At.Repart at) None y d s' y' o fz p.frozen (λ e. p.apart (sym e)) refl refl in
      let mine = mine_old owner gs ys g s tx (At.Repart at) None y d in
      let v = view_of (Old gs ys) in
      let pair : IsPair v g n s.core.arc f.core.arc = record { first = ap arc_of mine; second = ap arc_of q.0; line = ap succ_of mine ∙ p.line; apart = p.apart } in
      let ok = w.0.0.arcs g s.core.arc pair.first in
      let its = w.0.0.arcs n f.core.arc pair.second in
      let meet = pair_meets v g n s.core.arc f.core.arc w.0.1 pair in
      let room = room_of s.core.arc f.core.arc ok its meet (apart_of (Old gs ys) g n s f w.0 mine q.0 p.apart) in
      let can : can_cut f.core.arc at ≡ true = ap (λ (z : Frozen). can_cut z.arc at) p.frozen.same ∙ cut in
      let c = cut_is f.core.arc at can in
      let left = before f.core.arc at in
      let lok = left_is f.core.arc at its fits c.held c.inside in
      let lroom = part_room s.core.arc.len f.core.arc.len (offset f.core.arc at) room c.held in
      let after : participant_after o f p.frozen.offer ≡ Some b0 = cond-true (can_cut f.core.arc at) (Some b0) None can in
      let k = moved_commit owner ring gs ys g s tx (At.Repart at) y d fz o s' b0 p refl refl refl refl after refl (refl, refl, refl, refl) in
      let mz : s'.core.arc ≡ joined s.core.arc (before fz.arc at) = cond-false (holds s.core.arc at) (before s.core.arc at) (joined s.core.arc (before fz.arc at)) there in
      let ma : s'.core.arc ≡ joined s.core.arc left = mz ∙ ap (λ (z : Frozen). joined s.core.arc (before z.arc at)) (sym p.frozen.same) in
      let agrees = moved_agrees (Old gs ys) (New gs ys g s' tx y') g n s f s' b k in
      let past = ltb-false (offset s.core.arc at) s.core.arc.len there in
      let whole = joined s.core.arc f.core.arc in (
        whole_agree (move_view v g s'.core.arc n b.core.arc) (view_of (New gs ys g s' tx y')) agrees
            (subst (λ x. IsWhole (move_view v g x n b.core.arc)) (sym ma) (right_whole v g n s.core.arc f.core.arc at w.0 pair room fits c.held c.inside)),
        moved_inside (Old gs ys) (New gs ys g s' tx y') g n s f s' b k w.1
            (subst (λ a. InsideOf a s'.pairs) (sym mz)
            (subst (λ (z : Frozen). InsideOf (joined s.core.arc (before z.arc at)) (with_pairs s.pairs (entries (part_of (before z.arc at) (with_pairs empty z.pairs))))) p.frozen.same
            (inside_with (joined s.core.arc left) s.core.arc left s.pairs (part_of left (with_pairs empty (entries f.pairs))) (outside_joined s.core.arc left ok lok meet lroom) (w.1 g s mine) (inside_part left (with_pairs empty (entries f.pairs))))))
            (inside_part (from f.core.arc at) f.pairs),
        λ h. ap (λ z. ring_out (Some o) ring g z h) p.line
            ∙ ap (λ z. ring_move at z ring g n h) (both_are (ring g) (ring n) s.core.arc f.core.arc (ring_at ring (Old gs ys) g s w mine) (ring_at ring (Old gs ys) n f w q.0))
            ∙ turned ring g n (Some (before whole at)) (Some (from whole at)) p.apart h
            ∙ ap (λ (r : Ring). put (put r g (Some (before whole at))) n (Some (from whole at)) h) (same_ring ring (Old gs ys) w)
            ∙ ap (λ x. put (put v.arc g (Some (before whole at))) n (Some x) h) (from_second s.core.arc f.core.arc at ok meet past)
            ∙ ap (λ x. put (put v.arc g (Some x)) n (Some b.core.arc) h) (before_second s.core.arc f.core.arc at ok meet past ∙ sym ma)
            ∙ agrees.arcs h,
      )

module _ (owner : Draw → Option Draw) (ring : Ring) (gs : Groups) (ys : Stories) (g : Draw) (s : Group) (tx : Draw) (node : ℕ) (y : Story) (d : IsDeciding owner gs ys g s tx (At.Migrate node) None y) (fz : Frozen) (vote : y.vote ≡ Some (Ballot.Yes fz)) where
  -- a member that moves on changes no arc and no link
  pub migrate_commit : nat_le (length (united fz.members (node ∷ []))) 9 ≡ true → Good ring (Old gs ys)
      → (let o = Migrated node in Good ring (New gs ys g (decided_group (migrated_group s node fz) tx o) tx (Ends y o)))
  migrate_commit few w =
      let o : Outcome = Migrated node in
      let s' = decided_group (migrated_group s node fz) tx o in
      let y' = Ends y o in
      let p = part_is owner ring gs ys g s tx (At.Migrate node) y d fz vote refl in
      let f = p.frozen.group in
      let n = p.frozen.offer.part in
      let b0 = welcomed_group f node in
      let fine : nat_le (length (united f.core.members (node ∷ []))) 9 ≡ true = ap (λ (z : Frozen). nat_le (length (united z.members (node ∷ []))) 9) p.frozen.same ∙ few in
      let after : participant_after o f p.frozen.offer ≡ Some b0 = cond-true (nat_le (length (united f.core.members (node ∷ []))) 9) (Some b0) None fine in
      let k = moved_commit owner ring gs ys g s tx (At.Migrate node) y d fz o s' b0 p refl refl refl refl after refl (refl, refl, refl, refl) in
      let e = New gs ys g s' tx y' in
      good_alike ring (Old gs ys) e
      (λ h. elim (draw_cases h g) [
        | inl q ↦ (
            let a = ap (Old gs ys) q ∙ k.mine in
            let c = ap e q ∙ k.first in
            (ap arc_of a ∙ sym (ap arc_of c), ap succ_of a ∙ sym (ap succ_of c), ap pred_of a ∙ sym (ap pred_of c), ap pairs_of a ∙ sym (ap pairs_of c)))
        | inr ng ↦ elim (draw_cases h n) [
          | inl q ↦ (
              let a = ap (Old gs ys) q ∙ k.its in
              let c = ap e q ∙ k.second in
              (ap arc_of a ∙ sym (ap arc_of c), ap succ_of a ∙ sym (ap succ_of c), ap pred_of a ∙ sym (ap pred_of c), ap pairs_of a ∙ sym (ap pairs_of c)))
          | inr np ↦ alike_same (Old gs ys h) (e h) (k.others h ng np)
        ]
      ]) w
