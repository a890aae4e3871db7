-- A commit changes the view as its body says.
use Rattle.std.proofs.Common.{◌≡◌, ℕ, ◌+◌, ◌^◌, ◌<◌, ◌≤◌, true, inl, inr, Option, Some, None, refl, sym, ◌∙◌, ap, subst}
use Rattle.std.proofs.lemmas.Bool.{cond-true}
use Rattle.std.proofs.lemmas.Option.{same_Some}
use Rattle.sc_base.specs.Definitions.{Arc, before, from, joined, same_draw}
use Rattle.sc_base.specs.declared.names.Draw.{Draw}
use Rattle.sc_base.proofs.Lemmas.{same_name}
use Rattle.sc_words.specs.declared.commands.bodies.Body.{Body}
use Rattle.sc_words.specs.declared.commands.bodies.Offer.{Offer}
use Rattle.sc_words.specs.declared.commands.bodies.Watch.{Watch}
use Rattle.sc_words.specs.declared.commands.commands.Command.{Command}
use Rattle.sc_words.specs.declared.commands.commands.Command.TheVariants.{Finish}
use Rattle.sc_words.specs.declared.commands.cores.Core.{Core}
use Rattle.sc_words.specs.declared.commands.cores.Lock.{Lock}
use Rattle.sc_words.specs.declared.commands.cores.Lock.TheVariants.{Free, Coordinating, Promised, Watching}
use Rattle.sc_words.specs.declared.commands.effects.Effect.{Effect}
use Rattle.sc_words.specs.declared.commands.effects.Effect.TheVariants.{NoEffect}
use Rattle.sc_words.specs.declared.commands.votes.Frozen.{Frozen}
use Rattle.sc_words.specs.declared.commands.votes.Heard.{Heard}
use Rattle.sc_words.specs.declared.commands.votes.Outcome.{Outcome}
use Rattle.sc_words.specs.declared.commands.votes.Outcome.TheVariants.{Abort, Merged, Moved, Migrated, Divided}
use Rattle.sc_group_table.specs.machine.MachineDefinitions.{Group, participant_after, settled_in, finished, party_freed, watcher_after, applied}
use Rattle.sc_meaning.specs.entries.EntryDefinitions.{division_of, after_outcome, is_commit, both_arcs, decided_by}
use Rattle.sc_meaning.specs.declared.entries.Division.{Division}
use Rattle.sc_law_entries.specs.ring.RingDefinitions.{Story, Stories, put, unsigned, unsigned_watch, offer_for, watch_for, Groups, LockOk, IsOwnBody, IsFrozen, IsAgreed, Facts}
use Rattle.sc_meaning.proofs.EntriesProofs.EntryLemmas.{draw_cases}
use Rattle.sc_law_entries.proofs.RingProofs.View.{Ring, HeldBy, Holds, merge_view, move_view, split_view, IsOnRing}
use Rattle.sc_law_entries.proofs.RingProofs.Cover.{at-same, at-is, at-other}
use Rattle.sc_law_entries.proofs.RingProofs.Links.{IsPair, pair_meets}
use Rattle.sc_law_entries.proofs.RingProofs.Recut.{IsWhole, merge_whole}
use Rattle.sc_law_entries.proofs.RingProofs.Facts.{IsOf}
use Rattle.sc_law_entries.proofs.RingProofs.Ends.{own_story}
use Rattle.sc_law_entries.proofs.RingProofs.Effects.{decisions, outcome_of, settle_by, living, eff, arc_of, succ_of, pred_of, view_of, IsInside, AllInside, Good, Agrees, whole_agree, inside_same, Old, eff_by, living_is, eff_free, party}
use Rattle.sc_law_entries.proofs.RingProofs.RequestsAndOrders.{same_fun, watch_settled}
use Rattle.sc_law_entries.proofs.RingProofs.Insides.{InsideOf, room_of}
use Rattle.sc_law_entries.proofs.RingProofs.Finds.{some_none}

-- ---- the ring by names, after a decision

abbrev pub ring_split : Option Arc → Division → Ring → Draw → Ring
ring_split None d ring g = ring
ring_split (Some arc) d ring g = put (put ring g (Some (before arc d.at))) d.child (Some (from arc d.at))

abbrev pub ring_cut : Option Division → Ring → Draw → Ring
ring_cut None ring g = ring
ring_cut (Some d) ring g = ring_split (ring g) d ring g

abbrev pub ring_merge : Option Arc → Ring → Draw → Draw → Ring
ring_merge None ring g p = ring
ring_merge (Some whole) ring g p = put (put ring p None) g (Some whole)

abbrev pub ring_move : ℕ → Option Arc → Ring → Draw → Draw → Ring
ring_move at None ring g p = ring
ring_move at (Some whole) ring g p = put (put ring p (Some (from whole at))) g (Some (before whole at))

abbrev pub ring_out : Option Outcome → Ring → Draw → Draw → Ring
ring_out None ring g p = ring
ring_out (Some Abort) ring g p = ring
ring_out (Some (Merged into)) ring g p = ring_merge (both_arcs (ring g) (ring p)) ring g p
ring_out (Some (Moved at gift)) ring g p = ring_move at (both_arcs (ring g) (ring p)) ring g p
ring_out (Some (Migrated node)) ring g p = ring
ring_out (Some Divided) ring g p = ring

-- the ring after an entry of a group
abbrev pub ring_reported : Core → Command → Effect → Ring → Ring
ring_reported core command effect ring =
    ring_cut (division_of core command effect) (ring_out (decided_by command effect) ring core.id core.succ.group) core.id

-- two changes at two places come in either order
pub turned : {X : Type 0} (f : Draw → X) (g p : Draw) (x y : X) → (g ≡ p → ⊥) → (h : Draw) → put (put f p y) g x h ≡ put (put f g x) p y h
turned f g p x y ne h =
    elim (draw_cases h g) [
      | inl q ↦ at-is (put f p y) g x h q ∙ sym (at-other (put f g x) p y h (λ w. ne (sym q ∙ w)) ∙ at-is f g x h q)
      | inr ng ↦ at-other (put f p y) g x h ng ∙ elim (draw_cases h p) as (λ _. put f p y h ≡ put (put f g x) p y h) [
        | inl q ↦ at-is f p y h q ∙ sym (at-is (put f g x) p y h q)
        | inr np ↦ at-other f p y h np ∙ sym (at-other (put f g x) p y h np ∙ at-other f g x h ng)
      ]
    ]

-- ---- who a decision touches

untouched_lock : (ys : Stories) (tx : Draw) (y : Story) (l : Lock) (s : Group) → (IsOf l tx → ⊥) → settle_by l (decisions ys) s ≡ settle_by l (decisions (put ys tx (Some y))) s
untouched_lock ys tx y Free s ne = refl
untouched_lock ys tx y (Coordinating t body order heard) s ne = refl
untouched_lock ys tx y (Promised t offer) s ne = ap (λ o. after_outcome (outcome_of o) t s) (sym (at-other ys tx (Some y) t ne))
untouched_lock ys tx y (Watching t watch) s ne = ap (λ o. after_outcome (outcome_of o) t s) (sym (at-other ys tx (Some y) t ne))

pub untouched : (ys : Stories) (tx : Draw) (y : Story) (s : Group) → (IsOf s.core.lock tx → ⊥) → eff (decisions ys) (Some s) ≡ eff (decisions (put ys tx (Some y))) (Some s)
untouched ys tx y s ne = ap living (untouched_lock ys tx y s.core.lock s ne)

-- a group that decides its transaction
pub record IsDeciding (owner : Draw → Option Draw) (gs : Groups) (ys : Stories) (g : Draw) (s : Group) (tx : Draw) (body : Body) (heard : Option Heard) (y : Story) : Type 0 where
  pub facts : Facts owner gs ys
  pub fact : gs g ≡ Some s
  pub order : ℕ
  pub lock : s.core.lock ≡ Coordinating tx body order heard
  pub there : ys tx ≡ Some y

-- what its story says
pub record IsOwn (g : Draw) (s : Group) (tx : Draw) (body : Body) (heard : Option Heard) (y : Story) : Type 0 where
  pub coordinator : y.coordinator ≡ g
  pub undecided : y.outcome ≡ None
  pub here : s.core.gone ≡ None
  pub offer : y.offer ≡ offer_for s.core body
  pub watch : y.watch ≡ watch_for s.core body heard
  pub apart : s.core.succ.group ≡ g → ⊥
  pub own : IsOwnBody body tx
  pub same_body : y.body ≡ body

abbrev pub New : Groups → Stories → Draw → Group → Draw → Story → Draw → Option Group
New gs ys g s' tx y' h = eff (decisions (put ys tx (Some y'))) (put gs g (Some s') h)

-- a participant after a commit
pub promise_settled : (o : Outcome) (tx : Draw) (s : Group) (offer : Offer) → is_commit o ≡ true → s.core.lock ≡ Promised tx offer → after_outcome (Some o) tx s ≡ (settled_in (participant_after o s offer) s tx o).0
promise_settled o tx s offer c lock =
    cond-true (is_commit o) (applied s (Finish tx o)).0 s c
    ∙ ap (λ l. (finished l s tx o).0) lock
    ∙ ap (λ (r : Group × Effect). r.0) (cond-true (same_draw tx tx) (settled_in (participant_after o s offer) s tx o) (s, NoEffect tx) (same_name tx tx refl))

module _ (owner : Draw → Option Draw) (gs : Groups) (ys : Stories) (g : Draw) (s : Group) (tx : Draw) (body : Body) (heard : Option Heard) (y : Story) (d : IsDeciding owner gs ys g s tx body heard y) where
  pub own_is : IsOwn g s tx body heard y
  own_is =
      let own = own_story gs ys owner g s tx body d.order heard d.facts d.fact d.lock in
      let q = same_Some y own.story (sym d.there ∙ own.fact) in
      record {
        coordinator = ap (λ (z : Story). z.coordinator) q ∙ own.coordinator;
        undecided = ap (λ (z : Story). z.outcome) q ∙ own.undecided;
        here = own.here;
        offer = ap (λ (z : Story). z.offer) q ∙ own.offer;
        watch = ap (λ (z : Story). z.watch) q ∙ own.watch;
        apart = own.apart;
        own = own.own;
        same_body = ap (λ (z : Story). z.body) q ∙ own.same_body;
      }

  -- the coordinator before and after
  pub mine_old : Old gs ys g ≡ Some s
  mine_old = ap (eff (decisions ys)) d.fact ∙ eff_by (decisions ys) s (Coordinating tx body d.order heard) d.lock ∙ living_is s own_is.here

  pub mine_new : (s' : Group) (y' : Story) → s'.core.gone ≡ s.core.gone → s'.core.lock ≡ Free → New gs ys g s' tx y' g ≡ Some s'
  mine_new s' y' gone free = ap (eff (decisions (put ys tx (Some y')))) (at-same gs g (Some s')) ∙ eff_free (decisions (put ys tx (Some y'))) s' (gone ∙ own_is.here) free

  -- a group that is no party
  pub other_eff : (s' : Group) (y' : Story) (h : Draw) → (h ≡ g → ⊥) → ((offer : Offer) → y.offer ≡ Some (unsigned offer) → offer.part ≡ h → ⊥) → ((watch : Watch) → y.watch ≡ Some (unsigned_watch watch) → watch.part ≡ h → ⊥) → (o : Option Group) → gs h ≡ o
      → Old gs ys h ≡ New gs ys g s' tx y' h
  other_eff s' y' h ne np nx None e =
      ap (eff (decisions ys)) e ∙ sym (ap (eff (decisions (put ys tx (Some y')))) (at-other gs g (Some s') h ne ∙ e))
  other_eff s' y' h ne np nx (Some u) e =
      let ok = d.facts.group h u e in
      let no_party : IsOf u.core.lock tx → ⊥ = λ of. (
      let p = party ys tx y g h u d.there own_is.coordinator ne u.core.lock ok.lock_ok of in
      elim p.cases [ inl q ↦ np q.0 q.2 q.3 | inr q ↦ nx q.0 q.2 q.3 ]) in
      ap (eff (decisions ys)) e ∙ untouched ys tx y' u no_party ∙ sym (ap (eff (decisions (put ys tx (Some y')))) (at-other gs g (Some s') h ne ∙ e))

  -- the participant
  pub part_eff : (s' : Group) (y' : Story) (o : Outcome) (f : Frozen) (r : IsFrozen gs tx y f) → (r.offer.part ≡ g → ⊥) → y'.outcome ≡ Some o → is_commit o ≡ true
      → (Old gs ys r.offer.part ≡ Some r.group) × (New gs ys g s' tx y' r.offer.part ≡ living (settled_in (participant_after o r.group r.offer) r.group tx o).0) × (r.group.core.gone ≡ None)
  part_eff s' y' o f r ne out c =
      let ok = d.facts.group r.offer.part r.group r.fact in
      let promised = subst (LockOk ys r.offer.part r.group) r.lock ok.lock_ok in
      let f' = decisions (put ys tx (Some y')) in (
        ap (eff (decisions ys)) r.fact ∙ eff_by (decisions ys) r.group (Promised tx r.offer) r.lock ∙ ap (λ z. living (after_outcome (outcome_of z) tx r.group)) d.there
            ∙ ap (λ z. living (after_outcome z tx r.group)) own_is.undecided ∙ living_is r.group promised.here,
        ap (eff f') (at-other gs g (Some s') r.offer.part ne ∙ r.fact) ∙ eff_by f' r.group (Promised tx r.offer) r.lock
            ∙ ap (λ z. living (after_outcome (outcome_of z) tx r.group)) (at-same ys tx (Some y')) ∙ ap (λ z. living (after_outcome z tx r.group)) out
            ∙ ap living (promise_settled o tx r.group r.offer c r.lock),
        promised.here,
      )

  -- the watcher
  pub watch_eff : (s' : Group) (y' : Story) (o : Outcome) (r : IsAgreed gs tx y) → (r.watch.part ≡ g → ⊥) → y'.outcome ≡ Some o → is_commit o ≡ true
      → (Old gs ys r.watch.part ≡ Some r.group) × (New gs ys g s' tx y' r.watch.part ≡ Some (party_freed (watcher_after o r.group r.watch) tx))
  watch_eff s' y' o r ne out c =
      let ok = d.facts.group r.watch.part r.group r.fact in
      let watching = subst (LockOk ys r.watch.part r.group) r.lock ok.lock_ok in
      let f' = decisions (put ys tx (Some y')) in (
        ap (eff (decisions ys)) r.fact ∙ eff_by (decisions ys) r.group (Watching tx r.watch) r.lock ∙ ap (λ z. living (after_outcome (outcome_of z) tx r.group)) d.there
            ∙ ap (λ z. living (after_outcome z tx r.group)) own_is.undecided ∙ living_is r.group watching.here,
        ap (eff f') (at-other gs g (Some s') r.watch.part ne ∙ r.fact) ∙ eff_by f' r.group (Watching tx r.watch) r.lock
            ∙ ap (λ z. living (after_outcome (outcome_of z) tx r.group)) (at-same ys tx (Some y')) ∙ ap (λ z. living (after_outcome z tx r.group)) out
            ∙ ap living (watch_settled o tx r.group r.watch c r.lock)
            ∙ living_is (party_freed (watcher_after o r.group r.watch) tx) watching.here,
      )

-- ---- what a merge leaves, place by place

pub record IsMerged (d e : Draw → Option Group) (g p x : Draw) (s f m : Group) : Type 0 where
  pub mine : d g ≡ Some s
  pub its : d p ≡ Some f
  pub then : e g ≡ Some m
  pub gone : e p ≡ None
  pub others : (h : Draw) → (h ≡ g → ⊥) → (h ≡ p → ⊥) → (h ≡ x → ⊥) → d h ≡ e h
  pub watched : (x ≡ g → ⊥) → (u : Group) × (w : Group) × (d x ≡ Some u) × (e x ≡ Some w) × (w.core.arc ≡ u.core.arc) × (w.core.succ.group ≡ u.core.succ.group) × (w.core.pred.group ≡ g) × (u.pairs ≡ w.pairs)
  pub apart : g ≡ p → ⊥
  pub away : x ≡ p → ⊥
  pub arc : m.core.arc ≡ joined s.core.arc f.core.arc
  pub succ : m.core.succ.group ≡ x
  pub origin : f.core.succ.group ≡ x
  pub self : x ≡ g → m.core.pred.group ≡ g
  pub keeps : (x ≡ g → ⊥) → m.core.pred.group ≡ s.core.pred.group
  pub inside : InsideOf s.core.arc s.pairs → InsideOf f.core.arc f.pairs → s.core.arc.len + f.core.arc.len ≤ 2 ^ 32 → IsOnRing s.core.arc → IsOnRing f.core.arc → f.core.arc.lo ≡ Rattle.sc_base.specs.Arc.end_of s.core.arc → IsInside m

pub merged_view : (d e : Draw → Option Group) (g p x : Draw) (s f m : Group) → IsMerged d e g p x s f m → Agrees (merge_view (view_of d) g s.core.arc p f.core.arc) (view_of e)
merged_view d e g p x s f m k =
    let v = view_of d in
    let mid : Ring = put v.arc g (Some (joined s.core.arc f.core.arc)) in
    let x_is : v.next p ≡ x = ap succ_of k.its ∙ k.origin in
    let gone : (h : Draw) (a : Arc) → arc_of (e h) ≡ Some a → h ≡ p → ⊥ = λ h a q w. some_none a (sym q ∙ ap (λ n. arc_of (e n)) w ∙ ap arc_of k.gone) in
    record {
      arcs = λ h. elim (draw_cases h p) [
        | inl q ↦ at-is mid p None h q ∙ sym (ap arc_of (ap e q ∙ k.gone))
        | inr np ↦ at-other mid p None h np ∙ elim (draw_cases h g) as (λ _. mid h ≡ arc_of (e h)) [
          | inl q ↦ at-is v.arc g (Some (joined s.core.arc f.core.arc)) h q ∙ sym (ap arc_of (ap e q ∙ k.then) ∙ ap Some k.arc)
          | inr ng ↦ at-other v.arc g (Some (joined s.core.arc f.core.arc)) h ng ∙ elim (draw_cases h x) as (λ _. arc_of (d h) ≡ arc_of (e h)) [
            | inl q ↦ (
                let w = k.watched (λ a. ng (q ∙ a)) in
                ap arc_of (ap d q ∙ w.2) ∙ ap Some (sym w.4) ∙ sym (ap arc_of (ap e q ∙ w.3)))
            | inr nx ↦ ap arc_of (k.others h ng np nx)
          ]
        ]
      ];
      next = λ h a q. elim (draw_cases h g) [
        | inl w ↦ at-is v.next g (v.next p) h w ∙ x_is ∙ sym k.succ ∙ sym (ap succ_of (ap e w ∙ k.then))
        | inr ng ↦ at-other v.next g (v.next p) h ng ∙ elim (draw_cases h x) as (λ _. succ_of (d h) ≡ succ_of (e h)) [
          | inl w ↦ (
              let u = k.watched (λ b. ng (w ∙ b)) in
              ap succ_of (ap d w ∙ u.2) ∙ sym u.5 ∙ sym (ap succ_of (ap e w ∙ u.3)))
          | inr nx ↦ ap succ_of (k.others h ng (gone h a q) nx)
        ]
      ];
      prev = λ h a q. elim (draw_cases h x) [
        | inl w ↦ at-is v.prev (v.next p) g h (w ∙ sym x_is) ∙ elim (draw_cases x g) as (λ _. g ≡ pred_of (e h)) [
          | inl c ↦ sym (ap pred_of (ap e (w ∙ c) ∙ k.then) ∙ k.self c)
          | inr c ↦ (let u = k.watched c in sym (ap pred_of (ap e w ∙ u.3) ∙ u.6))
        ]
        | inr nx ↦ at-other v.prev (v.next p) g h (λ w. nx (w ∙ x_is)) ∙ elim (draw_cases h g) as (λ _. pred_of (d h) ≡ pred_of (e h)) [
          | inl w ↦ ap pred_of (ap d w ∙ k.mine) ∙ sym (k.keeps (λ c. nx (w ∙ sym c))) ∙ sym (ap pred_of (ap e w ∙ k.then))
          | inr ng ↦ ap pred_of (k.others h ng (gone h a q) nx)
        ]
      ];
    }

-- a record of the new world is the one that is known there
pub inside_at : (o : Option Group) (a b : Group) → o ≡ Some a → o ≡ Some b → IsInside a → IsInside b
inside_at o a b e q k = subst IsInside (same_Some a b (sym e ∙ q)) k

-- arcs of groups in line share nothing
pub apart_of : (d : Draw → Option Group) (g p : Draw) (s f : Group) → IsWhole (view_of d) → d g ≡ Some s → d p ≡ Some f → (g ≡ p → ⊥) → (n : ℕ) → n < 2 ^ 32 → Holds s.core.arc n → Holds f.core.arc n → ⊥
apart_of d g p s f w mine its ne n fits a b =
    ne (w.0.only n g p fits (subst (λ o. HeldBy (arc_of o) n) (sym mine) a) (subst (λ o. HeldBy (arc_of o) n) (sym its) b))

-- the ring has the arc of a record
pub ring_at : (ring : Ring) (d : Draw → Option Group) (g : Draw) (s : Group) → Good ring d → d g ≡ Some s → ring g ≡ Some s.core.arc
ring_at ring d g s w fact = w.2 g ∙ ap arc_of fact

pub both_are : (a b : Option Arc) (x y : Arc) → a ≡ Some x → b ≡ Some y → both_arcs a b ≡ Some (joined x y)
both_are a b x y e q = ap (λ o. both_arcs o b) e ∙ ap (both_arcs (Some x)) q

pub same_ring : (ring : Ring) (d : Draw → Option Group) → Good ring d → ring ≡ (view_of d).arc
same_ring ring d w = same_fun ring (view_of d).arc w.2

pub merged_good : (ring : Ring) (d e : Draw → Option Group) (g p x : Draw) (s f m : Group) → IsMerged d e g p x s f m → s.core.succ.group ≡ p → Good ring d → Good (ring_merge (both_arcs (ring g) (ring p)) ring g p) e
merged_good ring d e g p x s f m k line w =
    let pair : IsPair (view_of d) g p s.core.arc f.core.arc = record { first = ap arc_of k.mine; second = ap arc_of k.its; line = ap succ_of k.mine ∙ line; apart = k.apart } in
    let left = w.0.0.arcs g s.core.arc pair.first in
    let right = w.0.0.arcs p f.core.arc pair.second in
    let meet = pair_meets (view_of d) g p s.core.arc f.core.arc w.0.1 pair in
    let room = room_of s.core.arc f.core.arc left right meet (apart_of d g p s f w.0 k.mine k.its k.apart) in
    let agrees = merged_view d e g p x s f m k in
    let whole = joined s.core.arc f.core.arc in (
      whole_agree (merge_view (view_of d) g s.core.arc p f.core.arc) (view_of e) agrees (merge_whole (view_of d) g p s.core.arc f.core.arc w.0 pair room),
      λ h b q. elim (draw_cases h g) [
        | inl c ↦ inside_at (e g) m b k.then (ap e (sym c) ∙ q) (k.inside (w.1 g s k.mine) (w.1 p f k.its) room left right meet)
        | inr ng ↦ elim (draw_cases h p) [
          | inl c ↦ absurd (some_none b (sym q ∙ ap e c ∙ k.gone))
          | inr np ↦ elim (draw_cases h x) [
            | inl c ↦ (let u = k.watched (λ z. ng (c ∙ z)) in inside_at (e x) u.1 b u.3 (ap e (sym c) ∙ q) (inside_same u.0 u.1 (sym u.4) u.7 (w.1 x u.0 u.2)))
            | inr nx ↦ w.1 h b (k.others h ng np nx ∙ q)
          ]
        ]
      ],
      λ h. ap (λ o. ring_merge o ring g p h) (both_are (ring g) (ring p) s.core.arc f.core.arc (ring_at ring d g s w k.mine) (ring_at ring d p f w k.its))
          ∙ turned ring g p (Some whole) None k.apart h
          ∙ ap (λ (r : Ring). put (put r g (Some whole)) p None h) (same_ring ring d w)
          ∙ agrees.arcs h,
    )

-- ---- a moved boundary

pub record IsMoved (d e : Draw → Option Group) (g p : Draw) (s f a b : Group) : Type 0 where
  pub mine : d g ≡ Some s
  pub its : d p ≡ Some f
  pub first : e g ≡ Some a
  pub second : e p ≡ Some b
  pub others : (h : Draw) → (h ≡ g → ⊥) → (h ≡ p → ⊥) → d h ≡ e h
  pub links : (a.core.succ.group ≡ s.core.succ.group) × (a.core.pred.group ≡ s.core.pred.group) × (b.core.succ.group ≡ f.core.succ.group) × (b.core.pred.group ≡ f.core.pred.group)

pub moved_agrees : (d e : Draw → Option Group) (g p : Draw) (s f a b : Group) → IsMoved d e g p s f a b → Agrees (move_view (view_of d) g a.core.arc p b.core.arc) (view_of e)
moved_agrees d e g p s f a b k =
    let v = view_of d in
    let mid : Ring = put v.arc g (Some a.core.arc) in
    record {
      arcs = λ h. elim (draw_cases h p) [
        | inl q ↦ at-is mid p (Some b.core.arc) h q ∙ sym (ap arc_of (ap e q ∙ k.second))
        | inr np ↦ at-other mid p (Some b.core.arc) h np ∙ elim (draw_cases h g) as (λ _. mid h ≡ arc_of (e h)) [
          | inl q ↦ at-is v.arc g (Some a.core.arc) h q ∙ sym (ap arc_of (ap e q ∙ k.first))
          | inr ng ↦ at-other v.arc g (Some a.core.arc) h ng ∙ ap arc_of (k.others h ng np)
        ]
      ];
      next = λ h c z. elim (draw_cases h p) [
        | inl q ↦ ap succ_of (ap d q ∙ k.its) ∙ sym k.links.2 ∙ sym (ap succ_of (ap e q ∙ k.second))
        | inr np ↦ elim (draw_cases h g) [ inl q ↦ ap succ_of (ap d q ∙ k.mine) ∙ sym k.links.0 ∙ sym (ap succ_of (ap e q ∙ k.first)) | inr ng ↦ ap succ_of (k.others h ng np) ]
      ];
      prev = λ h c z. elim (draw_cases h p) [
        | inl q ↦ ap pred_of (ap d q ∙ k.its) ∙ sym k.links.3 ∙ sym (ap pred_of (ap e q ∙ k.second))
        | inr np ↦ elim (draw_cases h g) [ inl q ↦ ap pred_of (ap d q ∙ k.mine) ∙ sym k.links.1 ∙ sym (ap pred_of (ap e q ∙ k.first)) | inr ng ↦ ap pred_of (k.others h ng np) ]
      ];
    }

pub moved_inside : (d e : Draw → Option Group) (g p : Draw) (s f a b : Group) → IsMoved d e g p s f a b → AllInside d → IsInside a → IsInside b → AllInside e
moved_inside d e g p s f a b k ok x y h c q =
    elim (draw_cases h g) [
      | inl w ↦ inside_at (e g) a c k.first (ap e (sym w) ∙ q) x
      | inr ng ↦ elim (draw_cases h p) [
        | inl w ↦ inside_at (e p) b c k.second (ap e (sym w) ∙ q) y
        | inr np ↦ ok h c (k.others h ng np ∙ q)
      ]
    ]

-- ---- a split

pub record IsSplit (d e : Draw → Option Group) (g child x : Draw) (s l r : Group) (place : ℕ) : Type 0 where
  pub mine : d g ≡ Some s
  pub new : d child ≡ None
  pub left : e g ≡ Some l
  pub right : e child ≡ Some r
  pub others : (h : Draw) → (h ≡ g → ⊥) → (h ≡ child → ⊥) → (h ≡ x → ⊥) → d h ≡ e h
  pub watched : (x ≡ g → ⊥) → (u : Group) × (w : Group) × (d x ≡ Some u) × (e x ≡ Some w) × (w.core.arc ≡ u.core.arc) × (w.core.succ.group ≡ u.core.succ.group) × (w.core.pred.group ≡ child) × (u.pairs ≡ w.pairs)
  pub apart : g ≡ child → ⊥
  pub away : x ≡ child → ⊥
  pub origin : s.core.succ.group ≡ x
  pub left_arc_is : l.core.arc ≡ before s.core.arc place
  pub left_succ : l.core.succ.group ≡ child
  pub right_arc_is : r.core.arc ≡ from s.core.arc place
  pub right_succ : r.core.succ.group ≡ x
  pub right_pred : r.core.pred.group ≡ g
  pub self : x ≡ g → l.core.pred.group ≡ child
  pub keeps : (x ≡ g → ⊥) → l.core.pred.group ≡ s.core.pred.group

pub split_agrees : (d e : Draw → Option Group) (g child x : Draw) (s l r : Group) (place : ℕ) → IsSplit d e g child x s l r place → Agrees (split_view (view_of d) g s.core.arc place child) (view_of e)
split_agrees d e g child x s l r place k =
    let v = view_of d in
    let la : Option Arc = Some (before s.core.arc place) in
    let ra : Option Arc = Some (from s.core.arc place) in
    let mid : Ring = put v.arc g la in
    let x_is : v.next g ≡ x = ap succ_of k.mine ∙ k.origin in
    let nmid : Draw → Draw = put v.next g child in
    let pmid : Draw → Draw = put v.prev child g in
    record {
      arcs = λ h. elim (draw_cases h child) [
        | inl q ↦ at-is mid child ra h q ∙ sym (ap arc_of (ap e q ∙ k.right) ∙ ap Some k.right_arc_is)
        | inr nc ↦ at-other mid child ra h nc ∙ elim (draw_cases h g) as (λ _. mid h ≡ arc_of (e h)) [
          | inl q ↦ at-is v.arc g la h q ∙ sym (ap arc_of (ap e q ∙ k.left) ∙ ap Some k.left_arc_is)
          | inr ng ↦ at-other v.arc g la h ng ∙ elim (draw_cases h x) as (λ _. arc_of (d h) ≡ arc_of (e h)) [
            | inl q ↦ (let w = k.watched (λ a. ng (q ∙ a)) in ap arc_of (ap d q ∙ w.2) ∙ ap Some (sym w.4) ∙ sym (ap arc_of (ap e q ∙ w.3)))
            | inr nx ↦ ap arc_of (k.others h ng nc nx)
          ]
        ]
      ];
      next = λ h a b. elim (draw_cases h child) [
        | inl q ↦ at-is nmid child (v.next g) h q ∙ x_is ∙ sym k.right_succ ∙ sym (ap succ_of (ap e q ∙ k.right))
        | inr nc ↦ at-other nmid child (v.next g) h nc ∙ elim (draw_cases h g) as (λ _. nmid h ≡ succ_of (e h)) [
          | inl q ↦ at-is v.next g child h q ∙ sym k.left_succ ∙ sym (ap succ_of (ap e q ∙ k.left))
          | inr ng ↦ at-other v.next g child h ng ∙ elim (draw_cases h x) as (λ _. succ_of (d h) ≡ succ_of (e h)) [
            | inl q ↦ (let w = k.watched (λ c. ng (q ∙ c)) in ap succ_of (ap d q ∙ w.2) ∙ sym w.5 ∙ sym (ap succ_of (ap e q ∙ w.3)))
            | inr nx ↦ ap succ_of (k.others h ng nc nx)
          ]
        ]
      ];
      prev = λ h a b. elim (draw_cases h x) [
        | inl q ↦ at-is pmid (v.next g) child h (q ∙ sym x_is) ∙ elim (draw_cases x g) as (λ _. child ≡ pred_of (e h)) [
          | inl c ↦ sym (ap pred_of (ap e (q ∙ c) ∙ k.left) ∙ k.self c)
          | inr c ↦ (let w = k.watched c in sym (ap pred_of (ap e q ∙ w.3) ∙ w.6))
        ]
        | inr nx ↦ at-other pmid (v.next g) child h (λ q. nx (q ∙ x_is)) ∙ elim (draw_cases h child) as (λ _. pmid h ≡ pred_of (e h)) [
          | inl q ↦ at-is v.prev child g h q ∙ sym k.right_pred ∙ sym (ap pred_of (ap e q ∙ k.right))
          | inr nc ↦ at-other v.prev child g h nc ∙ elim (draw_cases h g) as (λ _. pred_of (d h) ≡ pred_of (e h)) [
            | inl q ↦ ap pred_of (ap d q ∙ k.mine) ∙ sym (k.keeps (λ c. nx (q ∙ sym c))) ∙ sym (ap pred_of (ap e q ∙ k.left))
            | inr ng ↦ ap pred_of (k.others h ng nc nx)
          ]
        ]
      ];
    }
