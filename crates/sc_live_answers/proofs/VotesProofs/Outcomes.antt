-- What a coordinator decides its participant can carry out: a boundary that it moves lies in one of two arcs that meet, and a member comes where there is room.
use Rattle.std.proofs.Common.{◌≡◌, ℕ, ◌+◌, ◌^◌, ◌<◌, ◌≤◌, true, false, List, ◌∷◌, [], Option, Some, None, refl, sym, ◌∙◌, ap, subst}
use Rattle.std.specs.Prelude.{length, ◌&&◌, ◌==◌, not, nat_le}
use Rattle.std.specs.FinMap.{entries}
use Rattle.std.proofs.lemmas.Bool.{and_from, and_parts, cond-true, cond_both, eq-eqb, le-leb}
use Rattle.std.proofs.lemmas.Option.{same_Some}
use Rattle.sc_base.specs.Definitions.{Arc, end_of, from, holds, before, offset, same_draw, is_member, united}
use Rattle.sc_node_table.specs.Values.{Draw, Body, Offer, Prepared, RecordVote, Lock, Coordinating, Free, Promised, Watching, Effect, Frozen, Gift, Heard, Outcome, Past, Vote}
use Rattle.sc_base.proofs.Lemmas.{draw_is}
use Rattle.sc_words.specs.commands.CommandDefinitions.{decided_in}
use Rattle.sc_words.specs.declared.commands.bodies.Body.TheVariants as At
use Rattle.sc_words.specs.declared.commands.effects.Effect.TheVariants as Was
use Rattle.sc_words.specs.declared.commands.votes.Outcome.TheVariants as Is
use Rattle.sc_words.specs.declared.commands.votes.Past.TheVariants as Cast
use Rattle.sc_words.specs.declared.commands.votes.Vote.TheVariants as Vows
use Rattle.sc_words.specs.ideal.IdealDefinitions.{Contents, part_of}
use Rattle.sc_meaning.specs.declared.entries.LogEntry.{LogEntry}
use Rattle.sc_group_table.specs.machine.MachineDefinitions.{can_gain, gained_group, lost_group, participant_after, welcomed_group, Group, applied, Plan, can_cut, can_join, can_migrate, can_repart, can_split, closing_group, giving_group, giving_plan, has_key_of, may_merge, merged_group, merged_route, migrated_group, part_gift, taken, taking_group, taking_plan, left_group, asks_watcher, committed, decided_group, granted, released, vote_recorded, watch_answered, watch_recorded, has_voted}
use Rattle.sc_law_entries.specs.ring.RingDefinitions.{AreAllowed, IsAllowed, IsVoteCast, Sources, first_recorded, Groups, BeginInPlace, stories_of, Stories, Story, new_story, unsigned, vote_in, with_answer, with_decision, with_vote, with_watch_vote}
use Rattle.sc_law_entries.proofs.RingProofs.RingLemmas.{end_right, right_is, apart_of, mine_old, own_is, part_eff, mine_open, Old, arc_of, succ_of, view_of, inside_part, no_shared, outside_next, room_of, IsPair, pair_meets, cut_is, Ends, part_is, Kept, IsOnRing, Ring, less_room as rest_room}
use Rattle.sc_live_answers.specs.AnswerDefinitions.{HasOwnKeys, IsTakenBy}
use Rattle.sc_law_groups.proofs.WholeProofs.WholeLemmas.{no_vote, StoryParts, stories_hold}

-- ---- what a participant takes

-- two arcs that meet
record AreNear (a b : Arc) : Type 0 where
  on : IsOnRing a
  its_on : IsOnRing b
  meet : b.lo ≡ end_of a
  room : a.len + b.len ≤ 2 ^ 32

-- a part of the arc before its own
gains : (group : Group) (own : Offer) (at : ℕ) → AreNear own.arc group.core.arc → at < 2 ^ 32 → can_cut own.arc at ≡ true → HasOwnKeys group → (gift : Gift) (m : Contents) → gift.pairs ≡ entries (part_of (from own.arc at) m)
    → (after : Group) × (participant_after (Is.Moved at (Some gift)) group own ≡ Some after)
gains group own at near fits cut keys gift m pairs =
    let c = cut_is own.arc at cut in
    let rest = from own.arc at in
    let on = right_is own.arc at near.on fits c.held in
    let meet : group.core.arc.lo ≡ end_of rest = near.meet ∙ sym (end_right own.arc at near.on fits c.held) in
    let room = rest_room own.arc.len group.core.arc.len (offset own.arc at) near.room c.held in
    let fine : can_gain group.core own at ≡ true =
    and_from (can_cut own.arc at) (can_join rest group.core.arc) cut
    (and_from (group.core.arc.lo == end_of rest) (nat_le (rest.len + group.core.arc.len) (2 ^ 32)) (eq-eqb group.core.arc.lo (end_of rest) meet) (le-leb (rest.len + group.core.arc.len) (2 ^ 32) room)) in
    let none : has_key_of group.pairs gift.pairs ≡ false =
    ap (has_key_of group.pairs) pairs ∙ no_shared group.core.arc rest group.pairs (part_of rest m) keys (inside_part rest m) (λ key h. outside_next rest group.core.arc on near.its_on meet room key h) in
    (gained_group group own at gift, cond-true (can_gain group.core own at && not (has_key_of group.pairs gift.pairs)) (Some (gained_group group own at gift)) None (and_from (can_gain group.core own at) (not (has_key_of group.pairs gift.pairs)) fine (ap not none)))

loses : (group : Group) (own : Offer) (at : ℕ) → can_cut group.core.arc at ≡ true → (after : Group) × (participant_after (Is.Moved at None) group own ≡ Some after)
loses group own at cut = (lost_group group at, cond-true (can_cut group.core.arc at) (Some (lost_group group at)) None cut)

welcomes : (group : Group) (own : Offer) (node : ℕ) → nat_le (length (united group.core.members (node ∷ []))) 9 ≡ true → (after : Group) × (participant_after (Is.Migrated node) group own ≡ Some after)
welcomes group own node few = (welcomed_group group node, cond-true (nat_le (length (united group.core.members (node ∷ []))) 9) (Some (welcomed_group group node)) None few)

aborts : (offer : Offer) (frozen : Frozen) → IsTakenBy Is.Abort offer frozen
aborts offer frozen group own f o keys = (group, refl)

merges : (into : _) (offer : Offer) (frozen : Frozen) → IsTakenBy (Is.Merged into) offer frozen
merges into offer frozen group own f o keys = (_, refl)

-- ---- stories

-- what a story says of its outcome
abbrev OutcomeFits : Story → Type 0
OutcomeFits y = (outcome : Outcome) → y.outcome ≡ Some outcome → (offer : Offer) → y.offer ≡ Some offer → (frozen : Frozen) → y.vote ≡ Some (Vows.Yes frozen) → IsTakenBy outcome offer frozen

no_outcome : (outcome : Outcome) → None ≡ Some outcome → ⊥
no_outcome outcome e = cc

no_offer : (offer : Offer) → None ≡ Some offer → ⊥
no_offer offer e = cc

same_vote : (f frozen : Frozen) → Some (Vows.Yes f) ≡ Some (Vows.Yes frozen) → f ≡ frozen
same_vote f frozen e = cc

same_none : (vote : Option Vote) (frozen : Frozen) → vote ≡ None → vote ≡ Some (Vows.Yes frozen) → ⊥
same_none vote frozen e v = no_vote frozen (sym e ∙ v)

new_fits : (s : Group) (body : Body) → OutcomeFits (new_story s body)
new_fits s body outcome e = absurd (no_outcome outcome e)

watched_fits : (o : Option Past) (y : Story) → OutcomeFits y → OutcomeFits (with_watch_vote o y)
watched_fits None y k = k
watched_fits (Some past) y k = k

-- with an outcome that its participant takes
decided_fits : (o : Outcome) (y : Story) → ((offer : Offer) → y.offer ≡ Some offer → (frozen : Frozen) → y.vote ≡ Some (Vows.Yes frozen) → IsTakenBy o offer frozen) → OutcomeFits (with_decision (Some o) y)
decided_fits o y takes outcome e offer fact frozen vote = subst (λ x. IsTakenBy x offer frozen) (same_Some o outcome e) (takes offer fact frozen vote)

changed_fits : (s : Group) (vote : Vote) (y : Story) → OutcomeFits y → OutcomeFits (with_answer s.core vote Was.Changed y)
changed_fits s (Vows.Yes frozen) y k = k
changed_fits s (Vows.No why) y k = k

-- ---- entries

module _ (sources : Sources) (ring : Ring) (gs : Groups) (ys : Stories) (g : Draw) (s : Group) (k : Kept sources.owner ring gs ys) (fact : gs g ≡ Some s) (old : (tx : Draw) (y : Story) → ys tx ≡ Some y → OutcomeFits y) where
  -- a participant's vote
  module _ (tx : Draw) (offer : Offer) (a : IsAllowed sources ys g (Prepared tx offer)) where
    -- it votes once
    once : (y : Story) → ys tx ≡ Some y → (vote : Vote) → y.vote ≡ Some vote → vote_in s (applied s (Prepared tx offer)).1 ≡ None
    once y e vote v =
        let w = (k.0.story tx y e).voter vote v in
        let story = same_Some a.0 y (sym a.1 ∙ e) in
        let part : w.offer.part ≡ g = ap (λ (o : Offer). o.part) (same_Some w.offer (unsigned offer) (sym w.offered ∙ (ap (λ (z : Story). z.offer) (sym story) ∙ a.2))) ∙ a.3 in
        let group : w.group ≡ s = same_Some w.group s (sym w.fact ∙ (ap gs part ∙ fact)) in
        let voted : has_voted s.core tx ≡ true = subst (λ (x : Group). has_voted x.core tx ≡ true) group w.voted in
        ap (λ (r : Group × Effect). vote_in s r.1) (cond-true (has_voted s.core tx) (s, Was.NoEffect tx) _ voted)

    -- where it is decided before the vote it is an abort
    early : (y : Story) → ys tx ≡ Some y → y.vote ≡ None → (outcome : Outcome) → y.outcome ≡ Some outcome → (own : Offer) → y.offer ≡ Some own → (frozen : Frozen) → IsTakenBy outcome own frozen
    early y e none Is.Abort out own o frozen = aborts own frozen
    early y e none (Is.Merged into) out own o frozen = absurd (let v = ((k.0.story tx y e).earned (Is.Merged into) out (λ q. cc)).0 own o in same_none y.vote v.0 none v.1)
    early y e none (Is.Moved at gift) out own o frozen = absurd (let v = ((k.0.story tx y e).earned (Is.Moved at gift) out (λ q. cc)).0 own o in same_none y.vote v.0 none v.1)
    early y e none (Is.Migrated node) out own o frozen = absurd (let v = ((k.0.story tx y e).earned (Is.Migrated node) out (λ q. cc)).0 own o in same_none y.vote v.0 none v.1)
    early y e none Is.Divided out own o frozen = absurd (let v = ((k.0.story tx y e).earned Is.Divided out (λ q. cc)).0 own o in same_none y.vote v.0 none v.1)

    with_cast : (y : Story) → ys tx ≡ Some y → (o : Option Vote) → (v : Option Vote) → y.vote ≡ v → vote_in s (applied s (Prepared tx offer)).1 ≡ o → OutcomeFits (with_vote o y)
    with_cast y e None v was c = old tx y e
    with_cast y e (Some vote) (Some before) was c = absurd (let none : None ≡ Some vote = sym (once y e before was) ∙ c in cc)
    with_cast y e (Some vote) None was c = λ outcome out own o frozen _. early y e was outcome out own o frozen

  -- ---- what a coordinator decides

  module _ (tx : Draw) (f : Frozen) (reported : IsVoteCast ys tx (Vows.Yes f)) where
    its_vote : (y : Story) → ys tx ≡ Some y → y.vote ≡ Some (Vows.Yes f)
    its_vote y e = ap (λ (z : Story). z.vote) (same_Some y reported.0 (sym e ∙ reported.1)) ∙ reported.2

    voted_is : (y : Story) → ys tx ≡ Some y → (frozen : Frozen) → y.vote ≡ Some (Vows.Yes frozen) → f ≡ frozen
    voted_is y e frozen v = same_vote f frozen (sym (its_vote y e) ∙ v)

    abbrev Answer : Group × Effect → Type 0
    Answer r = (y : Story) → ys tx ≡ Some y → OutcomeFits (with_answer s.core (Vows.Yes f) r.1 y)

    idle_so : (y : Story) → ys tx ≡ Some y → OutcomeFits (with_answer s.core (Vows.Yes f) (Was.NoEffect tx) y)
    idle_so y e = old tx y e

    module _ (at order : ℕ) (lock : s.core.lock ≡ Coordinating tx (At.Repart at) order None) where
      gives_so : can_cut s.core.arc at ≡ true → Answer (decided_group (giving_group s at f) tx (Is.Moved at (Some (part_gift s at))), Was.Decided (Is.Moved at (Some (part_gift s at))))
      gives_so cut y e = decided_fits (Is.Moved at (Some (part_gift s at))) y (λ offer o frozen v group own same signed keys. (
          let out : Outcome = Is.Moved at (Some (part_gift s at)) in
          let open_it = mine_open sources.owner ring gs ys g s k fact tx (At.Repart at) order None lock in
          let z = open_it.story in
          let d = open_it.deciding in
          let own_it = own_is sources.owner gs ys g s tx (At.Repart at) None z d in
          let zy : z ≡ y = same_Some z y (sym d.there ∙ e) in
          let p = part_is sources.owner ring gs ys g s tx (At.Repart at) z d f (its_vote z d.there) refl in
          let b = p.frozen.group in
          let n = p.frozen.offer.part in
          let q = part_eff sources.owner gs ys g s tx (At.Repart at) None z d (decided_group (giving_group s at f) tx out) (Ends z out) out f p.frozen (λ x. p.apart (sym x)) refl refl in
          let mine = mine_old sources.owner gs ys g s tx (At.Repart at) None z d in
          let w = k.1 in
          let v1 = view_of (Old gs ys) in
          let pair : IsPair v1 g n s.core.arc b.core.arc = record { first = ap arc_of mine; second = ap arc_of q.0; line = ap succ_of mine ∙ p.line; apart = p.apart } in
          let ok = w.0.0.arcs g s.core.arc pair.first in
          let its = w.0.0.arcs n b.core.arc pair.second in
          let meet = pair_meets v1 g n s.core.arc b.core.arc w.0.1 pair in
          let room = room_of s.core.arc b.core.arc ok its meet (apart_of (Old gs ys) g n s b w.0 mine q.0 p.apart) in
          let arc : s.core.arc ≡ own.arc = p.arc ∙ ap (λ (x : Offer). x.arc) (same_Some (unsigned p.frozen.offer) offer (sym p.frozen.offered ∙ (ap (λ (x : Story). x.offer) zy ∙ o)) ∙ sym signed) in
          let its_arc : b.core.arc ≡ group.core.arc = ap (λ (x : Frozen). x.arc) (p.frozen.same ∙ (voted_is y e frozen v ∙ sym same)) in
          let near : AreNear s.core.arc b.core.arc = record { on = ok; its_on = its; meet = meet; room = room } in
          gains group own at (subst (λ x. AreNear own.arc x) its_arc (subst (λ x. AreNear x b.core.arc) arc near)) own_it.own (subst (λ x. can_cut x at ≡ true) arc cut) keys (part_gift s at) s.pairs (ap (λ x. entries (part_of (from x at) s.pairs)) arc)))

      takes_so : can_cut f.arc at ≡ true → Answer (decided_group (taking_group s at f) tx (Is.Moved at None), Was.Decided (Is.Moved at None))
      takes_so cut y e = decided_fits (Is.Moved at None) y (λ offer o frozen v group own same signed keys.
          loses group own at (subst (λ (x : Frozen). can_cut x.arc at ≡ true) (voted_is y e frozen v ∙ sym same) cut))

      repart_so : Answer (committed (Rattle.sc_group_table.specs.machine.Plans.repart_plan s at f) s tx)
      repart_so =
          cond_both (holds s.core.arc at) (giving_plan s at f) (taking_plan s at f) (λ (plan : Plan). Answer (committed plan s tx))
          (λ held. cond_both (can_repart s.core at f) (Some (giving_group s at f, Is.Moved at (Some (part_gift s at)))) None (λ (plan : Plan). Answer (committed plan s tx))
          (λ c. gives_so (sym (cond-true (holds s.core.arc at) (can_cut s.core.arc at) (can_cut f.arc at && can_join s.core.arc (before f.arc at)) held) ∙ c)) (λ _. idle_so))
          (λ out. cond_both (can_repart s.core at f && not (has_key_of s.pairs (taken at f).pairs)) (Some (taking_group s at f, Is.Moved at None)) None (λ (plan : Plan). Answer (committed plan s tx))
          (λ c. takes_so (and_parts (can_cut f.arc at) (can_join s.core.arc (before f.arc at))
          (sym (Rattle.std.proofs.lemmas.Bool.cond-false (holds s.core.arc at) (can_cut s.core.arc at) (can_cut f.arc at && can_join s.core.arc (before f.arc at)) out) ∙ (and_parts (can_repart s.core at f) (not (has_key_of s.pairs (taken at f).pairs)) c).0)).0)
          (λ _. idle_so))

    migrate_so : (node : ℕ) → Answer (committed (Rattle.sc_group_table.specs.machine.Plans.migrate_plan s node f) s tx)
    migrate_so node =
        cond_both (can_migrate s.core node f) (Some (migrated_group s node f, Is.Migrated node)) None (λ (plan : Plan). Answer (committed plan s tx))
        (λ c y e. decided_fits (Is.Migrated node) y (λ offer o frozen v group own same signed keys.
        welcomes group own node (subst (λ (x : Frozen). nat_le (length (united x.members (node ∷ []))) 9 ≡ true) (voted_is y e frozen v ∙ sym same)
        (and_parts (is_member s.core.members node && nat_le 2 (length s.core.members)) (nat_le (length (united f.members (node ∷ []))) 9) c).1)))
        (λ _. idle_so)

    merge_so : (order by : ℕ) → Answer (granted At.Merge s tx order f by)
    merge_so order by =
        cond_both (same_draw f.succ.group s.core.id) _ _ Answer
        (λ _. cond_both (may_merge s f) (Some (closing_group s f, Is.Merged (merged_route s.core f))) None (λ (plan : Plan). Answer (committed plan s tx))
        (λ _ y e. decided_fits (Is.Merged (merged_route s.core f)) y (λ offer o frozen v. merges (merged_route s.core f) offer frozen)) (λ _. idle_so))
        (λ _ y e. changed_fits s (Vows.Yes f) y (old tx y e))

    answered_so : (by order : ℕ) (body : Body) (heard : Option Heard) → s.core.lock ≡ Coordinating tx body order heard → Answer (Rattle.std.specs.Prelude.cond (asks_watcher body heard) (s, Was.NoEffect tx) (granted body s tx order f by))
    answered_so by order At.Merge None lock = merge_so order by
    answered_so by order At.Merge (Some h) lock = idle_so
    answered_so by order (At.Repart at) None lock = repart_so at order lock
    answered_so by order (At.Repart at) (Some h) lock = idle_so
    answered_so by order (At.Migrate node) None lock = migrate_so node
    answered_so by order (At.Migrate node) (Some h) lock = idle_so
    answered_so by order (At.Split at child) heard lock = idle_so

    recorded_so : (by : ℕ) (l : Lock) → s.core.lock ≡ l → Answer (vote_recorded l s tx (Vows.Yes f) by)
    recorded_so by Free e = idle_so
    recorded_so by (Promised t offer) e = idle_so
    recorded_so by (Watching t watch) e = idle_so
    recorded_so by (Coordinating t body order heard) e =
        cond_both (same_draw t tx) _ _ Answer (λ q. answered_so by order body heard (e ∙ ap (λ x. Coordinating x body order heard) (draw_is t tx q))) (λ _. idle_so)

  -- ---- other decisions

  abbrev Decided_so : Draw → Group × Effect → Type 0
  Decided_so tx r = (y : Story) → ys tx ≡ Some y → OutcomeFits (with_decision (decided_in r.1) y)

  idle_at : (tx : Draw) → Decided_so tx (s, Was.NoEffect tx)
  idle_at tx y e = old tx y e

  abort_at : (tx : Draw) → Decided_so tx (decided_group s tx Is.Abort, Was.Decided Is.Abort)
  abort_at tx y e = decided_fits Is.Abort y (λ offer o frozen v. aborts offer frozen)

  split_at : (tx : Draw) (at : ℕ) (child : Draw) (order : ℕ) (heard : Option Heard) → s.core.lock ≡ Coordinating tx (At.Split at child) order heard → (made : Group) → Decided_so tx (made, Was.Decided Is.Divided)
  split_at tx at child order heard lock made y e = decided_fits Is.Divided y (λ offer o frozen v. absurd (
      let open_it = mine_open sources.owner ring gs ys g s k fact tx (At.Split at child) order heard lock in
      let own = own_is sources.owner gs ys g s tx (At.Split at child) heard open_it.story open_it.deciding in
      no_offer offer (sym own.offer ∙ (ap (λ (x : Story). x.offer) (same_Some open_it.story y (sym open_it.deciding.there ∙ e)) ∙ o))))

  released_at : (tx : Draw) (order : ℕ) (body : Body) (heard : Option Heard) → s.core.lock ≡ Coordinating tx body order heard → Decided_so tx (released body heard s tx)
  released_at tx order At.Merge None lock = idle_at tx
  released_at tx order At.Merge (Some h) lock =
      cond_both (may_merge s h.frozen) (Some (merged_group s h.frozen, Is.Merged (merged_route s.core h.frozen))) None (λ (plan : Plan). Decided_so tx (committed plan s tx))
      (λ _ y e. decided_fits (Is.Merged (merged_route s.core h.frozen)) y (λ offer o frozen v. merges (merged_route s.core h.frozen) offer frozen)) (λ _. idle_at tx)
  released_at tx order (At.Repart at) heard lock = idle_at tx
  released_at tx order (At.Migrate node) heard lock = idle_at tx
  released_at tx order (At.Split at child) heard lock =
      cond_both (can_split s.core at) (Some (left_group s at child, Is.Divided)) None (λ (plan : Plan). Decided_so tx (committed plan s tx))
      (λ _. split_at tx at child order heard lock (decided_group (left_group s at child) tx Is.Divided)) (λ _. idle_at tx)

  watched_at : (tx : Draw) (order : ℕ) (body : Body) (heard : Option Heard) (past : Past) → s.core.lock ≡ Coordinating tx body order heard → Decided_so tx (watch_answered past body heard s tx)
  watched_at tx order body heard Cast.Yes lock = released_at tx order body heard lock
  watched_at tx order body heard (Cast.No why) lock = abort_at tx
  watched_at tx order body heard Cast.Ended lock = abort_at tx

  watch_recorded_at : (tx : Draw) (past : Past) (l : Lock) → s.core.lock ≡ l → Decided_so tx (watch_recorded l s tx past)
  watch_recorded_at tx past Free e = idle_at tx
  watch_recorded_at tx past (Promised t offer) e = idle_at tx
  watch_recorded_at tx past (Watching t watch) e = idle_at tx
  watch_recorded_at tx past (Coordinating t body order heard) e =
      cond_both (same_draw t tx) _ _ (Decided_so tx)
      (λ q. cond_both (asks_watcher body heard) _ _ (Decided_so tx) (λ _. watched_at tx order body heard past (e ∙ ap (λ x. Coordinating x body order heard) (draw_is t tx q))) (λ _. idle_at tx))
      (λ _. idle_at tx)

  -- a No aborts
  abbrev Denied : Draw → Vote → Group × Effect → Type 0
  Denied tx vote r = (y : Story) → ys tx ≡ Some y → OutcomeFits (with_answer s.core vote r.1 y)

  denied_at : (tx : Draw) (why : _) (by : ℕ) (l : Lock) → Denied tx (Vows.No why) (vote_recorded l s tx (Vows.No why) by)
  denied_at tx why by Free = λ y e. old tx y e
  denied_at tx why by (Promised t offer) = λ y e. old tx y e
  denied_at tx why by (Watching t watch) = λ y e. old tx y e
  denied_at tx why by (Coordinating t body order heard) =
      cond_both (same_draw t tx) _ _ (Denied tx (Vows.No why))
      (λ q. cond_both (asks_watcher body heard) _ _ (Denied tx (Vows.No why)) (λ _ y e. old tx y e) (λ _ y e. decided_fits Is.Abort y (λ offer o frozen v. aborts offer frozen))) (λ _ y e. old tx y e)

  voted_at : (tx : Draw) (vote : Vote) (by : ℕ) → IsAllowed sources ys g (RecordVote tx vote by) → Denied tx vote (applied s (RecordVote tx vote by))
  voted_at tx (Vows.Yes f) by a = recorded_so tx f a by s.core.lock refl
  voted_at tx (Vows.No why) by a = denied_at tx why by s.core.lock

  -- ---- each entry

  parts : StoryParts sources ys g s (λ t y. OutcomeFits y)
  parts = record {
    splits = λ at child order a. new_fits s (At.Split at child);
    begins = λ tx body order a changed. new_fits s body;
    votes = λ tx offer a y e k. with_cast tx offer a y e (vote_in s (applied s (Prepared tx offer)).1) y.vote refl refl;
    watches = λ o tx y k. watched_fits o y k;
    answers = λ tx vote by a y e k. voted_at tx vote by a y e;
    releases = λ tx vote by y e k. watch_recorded_at tx vote s.core.lock refl y e;
    gives_up = λ tx y e k. cond_both (Rattle.sc_group_table.specs.machine.Transactions.is_coordinating s.core.lock tx) _ _ (Decided_so tx) (λ _. abort_at tx) (λ _. idle_at tx) y e;
  }

-- after allowed entries
pub outcomes_fit : (sources : Sources) (bases : List _) (list : List LogEntry) → BeginInPlace sources bases → AreAllowed sources (first_recorded bases) list
    → (tx : Draw) (y : Story) → stories_of bases list tx ≡ Some y → (outcome : Outcome) → y.outcome ≡ Some outcome → (offer : Offer) → y.offer ≡ Some offer → (frozen : Frozen) → y.vote ≡ Some (Vows.Yes frozen) → IsTakenBy outcome offer frozen
outcomes_fit sources bases list start allowed = stories_hold sources (λ t y. OutcomeFits y) (λ ring gs ys g s k fact old. parts sources ring gs ys g s k fact old) bases start list allowed
