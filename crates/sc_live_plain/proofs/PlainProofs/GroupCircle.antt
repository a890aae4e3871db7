-- The groups of a valid scenario stand round the circle, each before the next.
use Rattle.std.proofs.Common.{◌≡◌, ℕ, ◌+◌, ◌^◌, ◌<◌, ◌⊎◌, eqb, length, None, inl, inr, refl, sym, ◌∙◌, ap, subst, arith}
use Rattle.std.proofs.lemmas.Bool.{cond-true, cond-false, cases_eq, eq-eqb, ne_eqb}
use Rattle.sc_base.specs.Definitions.{Among, IsArc, end_of, least_of}
use Rattle.sc_node_table.specs.Values.{Draw, Base}
use Rattle.sc_meaning.specs.entries.EntryDefinitions.{first_cut}
use Rattle.sc_scenario.specs.scenario.Definitions.{name_at, place_right, base_at, bases_of, IsBounded}
use Rattle.sc_scenario.specs.declared.scenario.scenarios.Scenario.{Scenario}
use Rattle.sc_paxos_law.proofs.Lemmas.{from_map}
use Rattle.sc_law_groups.specs.whole.WholeDefinitions.{section_op}
use Rattle.sc_law_groups.proofs.WholeProofs.Starts.{AreStarts, starts_in_place}
use Rattle.sc_law_groups.proofs.WholeProofs.WholeLemmas.{group_place}
use Rattle.sc_live_plain.specs.PlainDefinitions.{FollowedBy, Frame, frame_of}
use Rattle.sc_live_plain.proofs.PlainProofs.PlainBeginnings.{frames_of, frame_is}
use Rattle.sc_live_plain.proofs.PlainRowsProofs.Lists.{map_among}

-- a group is followed by another, whose members it names as those of its successor
pub record IsBefore (frame other : Frame) : Type 0 where
  pub after : FollowedBy frame other
  pub members : frame.core.succ.members ≡ other.core.members

module _ (scenario : Scenario) (bounded : IsBounded scenario) where
  abbrev frame : ℕ → Frame
  frame k = frame_of (base_at bounded.starts k)

  starts : AreStarts bounded.starts
  starts = record { some = bounded.some; low = λ k d lt. (bounded.each k d lt).lo_in; rising = bounded.rising }

  -- which base follows, and an arc, by the law of the ring
  next_base : (base : Base) → Among base scenario.groups → (other : Base) × Among other scenario.groups × (other.core.arc.lo ≡ end_of base.core.arc) × (base.core.succ.group ≡ other.core.id)
  next_base base a =
      let place = starts_in_place bounded.starts starts (record { owner = λ name. None; request = section_op scenario }) (λ name unowned. refl) in
      let next = (place.first base (subst (Among base) bounded.groups a)).between.succ in
      (next.0, subst (Among next.0) (sym bounded.groups) next.1, next.2, next.3)

  base_arc : (base : Base) → Among base scenario.groups → IsArc base.core.arc × (base.core.arc.lo < 2 ^ 32)
  base_arc base a =
      let place = starts_in_place bounded.starts starts (record { owner = λ name. None; request = section_op scenario }) (λ name unowned. refl) in
      place.covers.arcs (first_cut base) (map_among first_cut (bases_of bounded.starts) base (subst (Among base) bounded.groups a))

  -- at the right of a place is the next one, or the first
  right_of : (k : ℕ) → ((k + 1 ≡ length bounded.starts) × (place_right bounded.starts k ≡ 0)) ⊎ ((k + 1 ≡ length bounded.starts → ⊥) × (place_right bounded.starts k ≡ k + 1))
  right_of k = elim (cases_eq (k + 1) (length bounded.starts)) [
    | inl end ↦ inl (end, cond-true (eqb (k + 1) (length bounded.starts)) 0 (k + 1) (eq-eqb (k + 1) (length bounded.starts) end))
    | inr ne ↦ inr (ne, cond-false (eqb (k + 1) (length bounded.starts)) 0 (k + 1) (ne_eqb (k + 1) (length bounded.starts) ne))
  ]

  -- each group stands before another
  pub next_frame : (one : Frame) → Among one (frames_of scenario) → (other : Frame) × Among other (frames_of scenario) × IsBefore one other
  next_frame one a =
      let b = from_map frame_of scenario.groups one a in
      let p = group_place scenario bounded b.0 b.1 in
      let next = next_base b.0 b.1 in
      let q = group_place scenario bounded next.0 next.1 in
      let names : name_at (place_right bounded.starts p.0) ≡ name_at q.0 = ap (λ (base : Base). base.core.succ.group) p.2 ∙ (next.3 ∙ ap (λ (base : Base). base.core.id) (sym q.2)) in
      let right = ap (λ (d : Draw). d.count) names in
      let place : place_right bounded.starts p.0 ≡ q.0 = omega (arith, right) in
      let members : b.0.core.succ.members ≡ next.0.core.members =
      ap (λ (base : Base). base.core.succ.members) (sym p.2) ∙ (ap (λ k. (base_at bounded.starts k).core.members) place ∙ ap (λ (base : Base). base.core.members) q.2) in
      (frame_of next.0, map_among frame_of scenario.groups next.0 next.1, subst (λ x. IsBefore x (frame_of next.0)) b.2 (record { after = record { name = next.3; starts = next.2 }; members = members }))

  -- and no two before the same one
  pub one_before : (one other next : Frame) → Among one (frames_of scenario) → Among other (frames_of scenario) → Among next (frames_of scenario) → FollowedBy one next → FollowedBy other next → one ≡ other
  one_before one other next a b n first second =
      let p = frame_is scenario bounded one a in
      let q = frame_is scenario bounded other b in
      let names : name_at (place_right bounded.starts p.0) ≡ name_at (place_right bounded.starts q.0) =
      ap (λ (f : Frame). f.core.succ.group) p.2 ∙ (first.name ∙ (sym second.name ∙ ap (λ (f : Frame). f.core.succ.group) (sym q.2))) in
      let right = ap (λ (d : Draw). d.count) names in
      sym p.2 ∙ (ap frame (same_place p.0 q.0 (omega (arith, right))) ∙ q.2)
    where
      same_place : (j k : ℕ) → place_right bounded.starts j ≡ place_right bounded.starts k → j ≡ k
      same_place j k same = elim (right_of j) [
        | inl x ↦ elim (right_of k) [
          | inl y ↦ (let d = x.0 in let e = y.0 in omega (arith, d, e))
          | inr y ↦ (let d = x.1 in let e = y.1 in absurd (omega (arith, d, e, same)))
        ]
        | inr x ↦ elim (right_of k) [
          | inl y ↦ (let d = x.1 in let e = y.1 in absurd (omega (arith, d, e, same)))
          | inr y ↦ (let d = x.1 in let e = y.1 in omega (arith, d, e, same))
        ]
      ]

  -- their arcs
  pub arcs_at_birth : (one : Frame) → Among one (frames_of scenario) → IsArc one.core.arc × (one.core.arc.lo < 2 ^ 32)
  arcs_at_birth one a =
      let b = from_map frame_of scenario.groups one a in
      subst (λ (x : Frame). IsArc x.core.arc × (x.core.arc.lo < 2 ^ 32)) b.2 (base_arc b.0 b.1)

  -- each is led by its least member
  pub least_leads : (one : Frame) → Among one (frames_of scenario) → one.lead ≡ least_of one.core.members
  least_leads one a = (let p = frame_is scenario bounded one a in subst (λ (x : Frame). x.lead ≡ least_of x.core.members) p.2 refl)
