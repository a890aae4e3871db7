-- Reshaping keeps the links.
use Rattle.std.proofs.Common.{◌≡◌, ℕ, ◌^◌, ◌<◌, inl, inr, Some, None, refl, sym, ◌∙◌, ap}
use Rattle.std.proofs.lemmas.Option.{same_Some}
use Rattle.sc_base.specs.declared.names.Draw.{Draw}
use Rattle.sc_law_entries.specs.ring.RingDefinitions.{put}
use Rattle.sc_meaning.proofs.EntriesProofs.EntryLemmas.{draw_cases}
use Rattle.sc_base.specs.Definitions.{Arc, end_of, before, from, joined}
use Rattle.sc_law_entries.proofs.RingProofs.View.{IsOnRing, Holds, Ring, View, IsLinked, split_view, merge_view, move_view}
use Rattle.sc_law_entries.proofs.RingProofs.Arcs.{end_left, end_right, end_joined}
use Rattle.sc_law_entries.proofs.RingProofs.Cover.{at-same, at-is, at-other}
use Rattle.sc_law_entries.proofs.RingProofs.Finds.{some_none}

-- a group with an arc is none without
pub differ : (f : Ring) (g h : Draw) (a : Arc) → f g ≡ Some a → f h ≡ None → g ≡ h → ⊥
differ f g h a fact none e = some_none a (sym fact ∙ ap f e ∙ none)

-- the arc put n, edited put g, begins where it did
lo_at : (f : Ring) (g : Draw) (arc arc' : Arc) → f g ≡ Some arc → arc'.lo ≡ arc.lo → (n : Draw) (b : Arc) → f n ≡ Some b → (c : Arc) × (put f g (Some arc') n ≡ Some c) × (c.lo ≡ b.lo)
lo_at f g arc arc' fact same n b e =
    elim (draw_cases n g) [
      | inl k ↦ (arc', at-is f g (Some arc') n k, same ∙ ap (λ (x : Arc). x.lo) (same_Some arc b (sym fact ∙ ap f (sym k) ∙ e)))
      | inr k ↦ (b, at-other f g (Some arc') n k ∙ e, refl)
    ]

pub linked_split : (v : View) (g : Draw) (arc : Arc) (place : ℕ) (child : Draw) → IsLinked v → IsOnRing arc → v.arc g ≡ Some arc → v.arc child ≡ None → place < 2 ^ 32 → Holds arc place
    → IsLinked (split_view v g arc place child)
linked_split v g arc place child l ok fact free fits held =
    let w = v.next g in
    let left = before arc place in
    let right = from arc place in
    let mid : Ring = put v.arc g (Some left) in
    let arcs : Ring = put mid child (Some right) in
    let next : Draw → Draw = put (put v.next g child) child w in
    let prev : Draw → Draw = put (put v.prev child g) w child in
    let gc : g ≡ child → ⊥ = differ v.arc g child arc fact free in
    let old : (h : Draw) → (h ≡ child → ⊥) → (a : Arc) → arcs h ≡ Some a → (b : Arc) × (v.arc h ≡ Some b) =
    λ h nc a e. elim (draw_cases h g) [ inl k ↦ (arc, ap v.arc k ∙ fact) | inr k ↦ (a, sym (at-other v.arc g (Some left) h k) ∙ sym (at-other mid child (Some right) h nc) ∙ e) ] in
    let still : (n : Draw) (b : Arc) → v.arc n ≡ Some b → (c : Arc) × (arcs n ≡ Some c) × (c.lo ≡ b.lo) =
    λ n b e. (let k = lo_at v.arc g arc left fact refl n b e in (k.0, at-other mid child (Some right) n (differ v.arc n child b e free) ∙ k.1, k.2)) in
    let m = l.meets g arc fact in
    let wc : w ≡ child → ⊥ = differ v.arc w child m.0 m.1 free in
    let next_child : next child ≡ w = at-same (put v.next g child) child w in
    let next_g : next g ≡ child = at-other (put v.next g child) child w g gc ∙ at-same v.next g child in
    let next_other : (h : Draw) → (h ≡ g → ⊥) → (h ≡ child → ⊥) → next h ≡ v.next h = λ h ng nc. at-other (put v.next g child) child w h nc ∙ at-other v.next g child h ng in
    let prev_w : prev w ≡ child = at-same (put v.prev child g) w child in
    let prev_child : prev child ≡ g = at-other (put v.prev child g) w child child (λ e. wc (sym e)) ∙ at-same v.prev child g in
    let prev_other : (h : Draw) → (h ≡ w → ⊥) → (h ≡ child → ⊥) → prev h ≡ v.prev h = λ h nw nc. at-other (put v.prev child g) w child h nw ∙ at-other v.prev child g h nc in
    record {
      meets = λ h a e. elim (draw_cases h child) [
        | inl k ↦ (
            let s = still w m.0 m.1 in
            let a_is = same_Some right a (sym (at-same mid child (Some right)) ∙ ap arcs (sym k) ∙ e) in
            (s.0, ap arcs (ap next k ∙ next_child) ∙ s.1, s.2 ∙ m.2 ∙ sym (end_right arc place ok fits held) ∙ ap end_of a_is))
        | inr nc ↦ elim (draw_cases h g) [
          | inl k ↦ (
              let a_is = same_Some left a (sym (at-other mid child (Some right) g gc ∙ at-same v.arc g (Some left)) ∙ ap arcs (sym k) ∙ e) in
              (right, ap arcs (ap next k ∙ next_g) ∙ at-same mid child (Some right), end_left arc place ok fits ∙ ap end_of a_is))
          | inr ng ↦ (
              let a_is = sym (at-other mid child (Some right) h nc ∙ at-other v.arc g (Some left) h ng) ∙ e in
              let n = l.meets h a a_is in
              let s = still (v.next h) n.0 n.1 in
              (s.0, ap arcs (next_other h ng nc) ∙ s.1, s.2 ∙ n.2))
        ]
      ];
      back = λ h a e. elim (draw_cases h child) [
        | inl k ↦ ap prev (ap next k ∙ next_child) ∙ prev_w ∙ sym k
        | inr nc ↦ elim (draw_cases h g) [
          | inl k ↦ ap prev (ap next k ∙ next_g) ∙ prev_child ∙ sym k
          | inr ng ↦ (
              let b = old h nc a e in
              let n = l.meets h b.0 b.1 in
              ap prev (next_other h ng nc)
              ∙ prev_other (v.next h) (λ q. ng (sym (l.back h b.0 b.1) ∙ ap v.prev q ∙ l.back g arc fact)) (differ v.arc (v.next h) child n.0 n.1 free)
              ∙ l.back h b.0 b.1)
        ]
      ];
      behind = λ h a e. elim (draw_cases h w) [
        | inl k ↦ (right, ap arcs (ap prev k ∙ prev_w) ∙ at-same mid child (Some right))
        | inr nw ↦ elim (draw_cases h child) [
          | inl k ↦ (let s = still g arc fact in (s.0, ap arcs (ap prev k ∙ prev_child) ∙ s.1))
          | inr nc ↦ (
              let b = old h nc a e in
              let n = l.behind h b.0 b.1 in
              let s = still (v.prev h) n.0 n.1 in
              (s.0, ap arcs (prev_other h nw nc) ∙ s.1))
        ]
      ];
      forth = λ h a e. elim (draw_cases h w) [
        | inl k ↦ ap next (ap prev k ∙ prev_w) ∙ next_child ∙ sym k
        | inr nw ↦ elim (draw_cases h child) [
          | inl k ↦ ap next (ap prev k ∙ prev_child) ∙ next_g ∙ sym k
          | inr nc ↦ (
              let b = old h nc a e in
              let n = l.behind h b.0 b.1 in
              ap next (prev_other h nw nc)
              ∙ next_other (v.prev h) (λ q. nw (sym (l.forth h b.0 b.1) ∙ ap v.next q)) (differ v.arc (v.prev h) child n.0 n.1 free)
              ∙ l.forth h b.0 b.1)
        ]
      ];
    }

-- two cuts in line
pub record IsPair (v : View) (g p : Draw) (arc its : Arc) : Type 0 where
  pub first : v.arc g ≡ Some arc
  pub second : v.arc p ≡ Some its
  pub line : v.next g ≡ p
  pub apart : g ≡ p → ⊥

pub pair_meets : (v : View) (g p : Draw) (arc its : Arc) → IsLinked v → IsPair v g p arc its → its.lo ≡ end_of arc
pair_meets v g p arc its l k =
    let m = l.meets g arc k.first in ap (λ (x : Arc). x.lo) (same_Some its m.0 (sym k.second ∙ ap v.arc (sym k.line) ∙ m.1)) ∙ m.2

pub not_back : (v : View) (g p : Draw) (arc its : Arc) → IsLinked v → IsPair v g p arc its → v.next p ≡ p → ⊥
not_back v g p arc its l k e = k.apart (sym (l.back g arc k.first) ∙ ap v.prev k.line ∙ sym (ap v.prev e) ∙ l.back p its k.second)

pub linked_merge : (v : View) (g p : Draw) (arc its : Arc) → IsLinked v → IsPair v g p arc its → IsLinked (merge_view v g arc p its)
linked_merge v g p arc its l k =
    let x = v.next p in
    let joined = joined arc its in
    let mid : Ring = put v.arc g (Some joined) in
    let arcs : Ring = put mid p None in
    let next : Draw → Draw = put v.next g x in
    let prev : Draw → Draw = put v.prev x g in
    let xp : x ≡ p → ⊥ = not_back v g p arc its l k in
    let here : (h : Draw) (a : Arc) → arcs h ≡ Some a → h ≡ p → ⊥ = λ h a e q. some_none a (sym e ∙ ap arcs q ∙ at-same mid p None) in
    let old : (h : Draw) (a : Arc) → arcs h ≡ Some a → (b : Arc) × (v.arc h ≡ Some b) =
    λ h a e. elim (draw_cases h g) [ inl q ↦ (arc, ap v.arc q ∙ k.first) | inr q ↦ (a, sym (at-other v.arc g (Some joined) h q) ∙ sym (at-other mid p None h (here h a e)) ∙ e) ] in
    let still : (n : Draw) (b : Arc) → v.arc n ≡ Some b → (n ≡ p → ⊥) → (c : Arc) × (arcs n ≡ Some c) × (c.lo ≡ b.lo) =
    λ n b e np. (let q = lo_at v.arc g arc joined k.first refl n b e in (q.0, at-other mid p None n np ∙ q.1, q.2)) in
    let m = l.meets p its k.second in
    let next_g : next g ≡ x = at-same v.next g x in
    let prev_x : prev x ≡ g = at-same v.prev x g in
    let back_p : v.prev x ≡ p = l.back p its k.second in
    record {
      meets = λ h a e. elim (draw_cases h g) [
        | inl q ↦ (
            let s = still x m.0 m.1 xp in
            let a_is = same_Some joined a (sym (at-other mid p None g k.apart ∙ at-same v.arc g (Some joined)) ∙ ap arcs (sym q) ∙ e) in
            (s.0, ap arcs (ap next q ∙ next_g) ∙ s.1, s.2 ∙ m.2 ∙ sym (end_joined arc its (pair_meets v g p arc its l k)) ∙ ap end_of a_is))
        | inr ng ↦ (
            let a_is = sym (at-other mid p None h (here h a e) ∙ at-other v.arc g (Some joined) h ng) ∙ e in
            let n = l.meets h a a_is in
            let s = still (v.next h) n.0 n.1 (λ q. ng (sym (l.back h a a_is) ∙ ap v.prev (q ∙ sym k.line) ∙ l.back g arc k.first)) in
            (s.0, ap arcs (at-other v.next g x h ng) ∙ s.1, s.2 ∙ n.2))
      ];
      back = λ h a e. elim (draw_cases h g) [
        | inl q ↦ ap prev (ap next q ∙ next_g) ∙ prev_x ∙ sym q
        | inr ng ↦ (
            let b = old h a e in
            ap prev (at-other v.next g x h ng)
            ∙ at-other v.prev x g (v.next h) (λ q. here h a e (sym (l.back h b.0 b.1) ∙ ap v.prev q ∙ back_p))
            ∙ l.back h b.0 b.1)
      ];
      behind = λ h a e. elim (draw_cases h x) [
        | inl q ↦ (joined, ap arcs (ap prev q ∙ prev_x) ∙ at-other mid p None g k.apart ∙ at-same v.arc g (Some joined))
        | inr nx ↦ (
            let b = old h a e in
            let n = l.behind h b.0 b.1 in
            let s = still (v.prev h) n.0 n.1 (λ q. nx (sym (l.forth h b.0 b.1) ∙ ap v.next q)) in
            (s.0, ap arcs (at-other v.prev x g h nx) ∙ s.1))
      ];
      forth = λ h a e. elim (draw_cases h x) [
        | inl q ↦ ap next (ap prev q ∙ prev_x) ∙ next_g ∙ sym q
        | inr nx ↦ (
            let b = old h a e in
            ap next (at-other v.prev x g h nx)
            ∙ at-other v.next g x (v.prev h) (λ q. here h a e (sym (l.forth h b.0 b.1) ∙ ap v.next q ∙ k.line))
            ∙ l.forth h b.0 b.1)
      ];
    }

pub linked_move : (v : View) (g p : Draw) (arc its a b : Arc) → IsLinked v → IsPair v g p arc its → a.lo ≡ arc.lo → b.lo ≡ end_of a → end_of b ≡ end_of its → IsLinked (move_view v g a p b)
linked_move v g p arc its a b l k same seam end =
    let mid : Ring = put v.arc g (Some a) in
    let arcs : Ring = put mid p (Some b) in
    let xp = not_back v g p arc its l k in
    let at_g : arcs g ≡ Some a = at-other mid p (Some b) g k.apart ∙ at-same v.arc g (Some a) in
    let at_p : arcs p ≡ Some b = at-same mid p (Some b) in
    let old : (h : Draw) (c : Arc) → arcs h ≡ Some c → (d : Arc) × (v.arc h ≡ Some d) =
    λ h c e. elim (draw_cases h g) [
      | inl q ↦ (arc, ap v.arc q ∙ k.first)
      | inr ng ↦ elim (draw_cases h p) [ inl q ↦ (its, ap v.arc q ∙ k.second) | inr np ↦ (c, sym (at-other v.arc g (Some a) h ng) ∙ sym (at-other mid p (Some b) h np) ∙ e) ]
    ] in
    let still : (n : Draw) (c : Arc) → v.arc n ≡ Some c → (n ≡ p → ⊥) → (d : Arc) × (arcs n ≡ Some d) × (d.lo ≡ c.lo) =
    λ n c e np. (let q = lo_at v.arc g arc a k.first same n c e in (q.0, at-other mid p (Some b) n np ∙ q.1, q.2)) in
    record {
      meets = λ h c e. elim (draw_cases h g) [
        | inl q ↦ (b, ap arcs (ap v.next q ∙ k.line) ∙ at_p, seam ∙ ap end_of (same_Some a c (sym at_g ∙ ap arcs (sym q) ∙ e)))
        | inr ng ↦ elim (draw_cases h p) [
          | inl q ↦ (
              let m = l.meets p its k.second in
              let s = still (v.next p) m.0 m.1 xp in
              (s.0, ap arcs (ap v.next q) ∙ s.1, s.2 ∙ m.2 ∙ sym end ∙ ap end_of (same_Some b c (sym at_p ∙ ap arcs (sym q) ∙ e))))
          | inr np ↦ (
              let fact = sym (at-other mid p (Some b) h np ∙ at-other v.arc g (Some a) h ng) ∙ e in
              let n = l.meets h c fact in
              let s = still (v.next h) n.0 n.1 (λ q. ng (sym (l.back h c fact) ∙ ap v.prev (q ∙ sym k.line) ∙ l.back g arc k.first)) in
              (s.0, s.1, s.2 ∙ n.2))
        ]
      ];
      back = λ h c e. (let d = old h c e in l.back h d.0 d.1);
      behind = λ h c e. (
          let d = old h c e in
          let n = l.behind h d.0 d.1 in
          elim (draw_cases (v.prev h) p) [ inl q ↦ (b, ap arcs q ∙ at_p) | inr np ↦ (let s = still (v.prev h) n.0 n.1 np in (s.0, s.1)) ]);
      forth = λ h c e. (let d = old h c e in l.forth h d.0 d.1);
    }
