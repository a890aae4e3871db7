-- What a coordinator records: votes, and giving up.
use Rattle.std.specs.Prelude.{nat_le, not, ◌&&◌, length}
use Rattle.std.specs.List.{list_any}
use Rattle.std.proofs.Common.{◌≡◌, ℕ, true, false, cond, [], ◌∷◌, Option, Some, None, refl, sym, ◌∙◌, ap, subst}
use Rattle.std.proofs.lemmas.Bool.{cond_both, and_parts, cond-true, cond-false}
use Rattle.std.proofs.lemmas.Option.{same_Some}
use Rattle.sc_base.specs.Definitions.{holds, before, same_draw, is_member, united}
use Rattle.sc_base.specs.declared.names.Draw.{Draw}
use Rattle.sc_base.proofs.Lemmas.{same_name}
use Rattle.sc_words.specs.declared.commands.bodies.Body.{Body}
use Rattle.sc_words.specs.declared.commands.bodies.Body.TheVariants as At
use Rattle.sc_words.specs.declared.commands.cores.Lock.{Lock}
use Rattle.sc_words.specs.declared.commands.cores.Lock.TheVariants.{Free, Coordinating, Promised, Watching}
use Rattle.sc_words.specs.declared.commands.effects.Effect.{Effect}
use Rattle.sc_words.specs.declared.commands.effects.Effect.TheVariants as Was
use Rattle.sc_words.specs.declared.commands.votes.Frozen.{Frozen}
use Rattle.sc_words.specs.declared.commands.votes.Heard.{Heard}
use Rattle.sc_words.specs.declared.commands.votes.Outcome.{Outcome}
use Rattle.sc_words.specs.declared.commands.votes.Outcome.TheVariants.{Abort, Merged, Moved, Migrated, Divided}
use Rattle.sc_words.specs.declared.commands.votes.Past.{Past}
use Rattle.sc_words.specs.declared.commands.votes.Past.TheVariants as Cast
use Rattle.sc_words.specs.declared.commands.votes.Vote.{Vote}
use Rattle.sc_words.specs.declared.commands.votes.Vote.TheVariants as Ballot
use Rattle.sc_words.specs.commands.CommandDefinitions.{is_divided, decided_in}
use Rattle.sc_group_table.specs.machine.MachineDefinitions.{decided, Group, group_of, can_cut, can_join, can_split, can_repart, can_migrate, has_key_of, merged_route, merged_group, closing_group, part_gift, giving_group, taken, taking_group, migrated_group, left_group, child_of, decided_group, aborted, heard_group, vote_recorded, watch_recorded, is_coordinating}
use Rattle.sc_meaning.specs.entries.EntryDefinitions.{division_in}
use Rattle.sc_meaning.specs.declared.entries.Division.{Division}
use Rattle.sc_law_walks.proofs.WalkLemmas.{vote_step, watch_step}
use Rattle.sc_law_entries.specs.ring.RingDefinitions.{IsVoteCast, IsWatchVoteCast, Story, Stories, put, with_story, merge_watch, with_decision, with_answer, Groups, IsEarned, Facts}
use Rattle.sc_meaning.proofs.EntriesProofs.EntryLemmas.{names_differ}
use Rattle.sc_law_entries.proofs.RingProofs.Notes.{any_keeps, any_drops, any_new, is_vote_on}
use Rattle.sc_law_entries.proofs.RingProofs.View.{Ring}
use Rattle.sc_law_entries.proofs.RingProofs.Cover.{at-same, at-other}
use Rattle.sc_law_entries.proofs.RingProofs.Ends.{own_story, same_lock, hear_facts, IsDecision, decide_facts, born_facts}
use Rattle.sc_law_entries.proofs.RingProofs.Effects.{decisions, eff, arc_of, succ_of, pred_of, pairs_of, Good, Like, like_abort, like_at, whole_change, eff_by, living_is}
use Rattle.sc_law_entries.proofs.RingProofs.CommittedViews.{ring_cut, ring_out, IsDeciding, own_is, New}
use Rattle.sc_law_entries.proofs.RingProofs.Reshapes.{Ends, merge_closing, merge_watched}
use Rattle.sc_law_entries.proofs.RingProofs.Moves.{cut_is, give_commit, take_commit, migrate_commit}
use Rattle.sc_law_entries.proofs.RingProofs.Splits.{divide_commit}
use Rattle.sc_law_entries.proofs.RingProofs.RequestsAndOrders.{Kept, idle_reported, reported_at}
use Rattle.sc_law_entries.proofs.RingProofs.VotesOfParties.{outcome_like}
use Rattle.sc_law_entries.proofs.RingProofs.Finds.{some_none}
use Rattle.sc_law_entries.proofs.RingProofs.Facts.{StayBorn}

-- the groups with the child of a division, if there is one
abbrev pub born_too : Group → Groups → Option Division → Groups
born_too s groups None = groups
born_too s groups (Some d) = put groups d.child (Some (group_of (child_of s d.at d.child)))

-- the division that the watcher's vote makes
abbrev pub watch_division : Group → Effect → Option Division
watch_division s effect = cond (is_divided effect) (division_in s.core.lock) None

-- what the coordinator of a transaction finds
pub record IsMineOpen (owner : Draw → Option Draw) (gs : Groups) (ys : Stories) (g : Draw) (s : Group) (tx : Draw) (body : Body) (heard : Option Heard) : Type 0 where
  pub story : Story
  pub deciding : IsDeciding owner gs ys g s tx body heard story
  pub heard_vote : (h : Heard) → heard ≡ Some h → (story.vote ≡ Some (Ballot.Yes h.frozen)) × (h.frozen.succ.group ≡ g → ⊥)
  pub unborn : (at : ℕ) (child : Draw) → body ≡ At.Split at child → gs tx ≡ None

-- the group that a decision leaves notes it, and keeps its other notes
decision_of : (s m : Group) (tx : Draw) (o : Outcome) → m.core.id ≡ s.core.id → m.core.decided ≡ s.core.decided → m.core.voted ≡ s.core.voted → StayBorn s m → IsDecision tx s (decided_group m tx o)
decision_of s m tx o id dec vot born = record {
  id = id;
  free = refl;
  noted = any_new (λ decision. same_draw decision.0 tx) m.core.decided (tx, o) (same_name tx tx refl);
  decided = λ t e. subst (λ l. list_any (λ (x : Draw × Outcome). same_draw x.0 t) l ≡ false) dec (any_drops (λ decision. same_draw decision.0 t) m.core.decided ((tx, o) ∷ []) e);
  voted = λ t e. subst (λ l. list_any (is_vote_on t) l ≡ true) (sym vot) e;
  born = born;
}

-- votes that a body without a watcher needs
earned_by : (y : Story) (f : Frozen) → y.vote ≡ Some (Ballot.Yes f) → y.watch ≡ None → IsEarned y
earned_by y f vote none = (λ offer o. (f, vote), λ w e. absurd (some_none w (sym e ∙ none)))

module _ (owner : Draw → Option Draw) (ring : Ring) (gs : Groups) (ys : Stories) (g : Draw) (s : Group) (k : Kept owner ring gs ys) (fact : gs g ≡ Some s) where
  pub mine_open : (tx : Draw) (body : Body) (order : ℕ) (heard : Option Heard) → s.core.lock ≡ Coordinating tx body order heard → IsMineOpen owner gs ys g s tx body heard
  mine_open tx body order heard lock =
      let own = own_story gs ys owner g s tx body order heard k.0 fact lock in
      record {
        story = own.story;
        deciding = record { facts = k.0; fact = fact; order = order; lock = lock; there = own.fact };
        heard_vote = own.heard_vote;
        unborn = λ at child e. (k.0.story tx own.story own.fact).unborn at child (own.same_body ∙ e) own.undecided;
      }

  named : s.core.id ≡ g
  named = (k.0.group g s fact).named

  -- an abort
  abort_kept : (tx : Draw) (body : Body) (heard : Option Heard) → (o : IsMineOpen owner gs ys g s tx body heard) → Kept owner ring (put gs g (Some (decided_group s tx Abort))) (put ys tx (Some (Ends o.story Abort)))
  abort_kept tx body heard o =
      let y = o.story in
      let d = o.deciding in
      let own = own_is owner gs ys g s tx body heard y d in
      let ys' : Stories = put ys tx (Some (Ends y Abort)) in
      let s' = decided_group s tx Abort in (
        decide_facts gs ys owner g s s' tx body d.order heard y Abort k.0 fact d.lock d.there (decision_of s s tx Abort refl refl refl (λ h b. b)) (λ na. absurd (na refl)),
        whole_change ring gs ys ys' g s s' fact (like_at ys tx (Ends y Abort) (Some y) d.there (subst (λ x. Like x (Some Abort)) (sym own.undecided) like_abort))
            (let a = eff_by (decisions ys) s (Coordinating tx body d.order heard) d.lock ∙ living_is s own.here in
            let b : eff (decisions ys') (Some s') ≡ Some s' = living_is s' own.here in
            (ap arc_of a ∙ sym (ap arc_of b), ap succ_of a ∙ sym (ap succ_of b), ap pred_of a ∙ sym (ap pred_of b), ap pairs_of a ∙ sym (ap pairs_of b))) k.1,
      )

  -- ---- the participant's vote is recorded

  abbrev Lands : Draw → Vote → Group × Effect → Type 0
  Lands tx vote r = Kept owner (ring_out (decided_in r.1) ring s.core.id s.core.succ.group) (put gs g (Some r.0)) (with_story ys tx (with_answer s.core vote r.1))

  lands_idle : (tx : Draw) (vote : Vote) → Lands tx vote (s, Was.NoEffect tx)
  lands_idle tx vote = idle_reported owner ring gs ys g s tx (with_answer s.core vote (Was.NoEffect tx)) (λ y. refl) k fact

  lands_decided : (tx : Draw) (vote : Vote) (y : Story) (o : Outcome) (b : Group) → ys tx ≡ Some y
      → Facts owner (put gs g (Some b)) (put ys tx (Some (Ends y o))) → Good (ring_out (Some o) ring g s.core.succ.group) (New gs ys g b tx (Ends y o)) → Lands tx vote (b, Was.Decided o)
  lands_decided tx vote y o b there facts good =
      subst (λ z. Kept owner (ring_out (Some o) ring s.core.id s.core.succ.group) (put gs g (Some b)) z) (sym (reported_at ys tx (λ z. Ends z o) y there))
      (facts, subst (λ n. Good (ring_out (Some o) ring n s.core.succ.group) (New gs ys g b tx (Ends y o))) (sym named) good)

  gives_kept : (tx : Draw) (at : ℕ) (f : Frozen) → (o : IsMineOpen owner gs ys g s tx (At.Repart at) None) → o.story.vote ≡ Some (Ballot.Yes f) → holds s.core.arc at ≡ true → can_repart s.core at f ≡ true
      → Lands tx (Ballot.Yes f) (decided (giving_group s at f) tx (Moved at (Some (part_gift s at))))
  gives_kept tx at f o vote e c =
      let y = o.story in
      let d = o.deciding in
      let own = own_is owner gs ys g s tx (At.Repart at) None y d in
      let out : Outcome = Moved at (Some (part_gift s at)) in
      let b = decided_group (giving_group s at f) tx out in
      let cut : can_cut s.core.arc at ≡ true = sym (cond-true (holds s.core.arc at) (can_cut s.core.arc at) (can_cut f.arc at && can_join s.core.arc (before f.arc at)) e) ∙ c in
      lands_decided tx (Ballot.Yes f) y out b d.there
      (decide_facts gs ys owner g s b tx (At.Repart at) d.order None y out k.0 fact d.lock d.there (decision_of s (giving_group s at f) tx out refl refl refl (λ h q. q)) (λ na. earned_by y f vote own.watch))
      (give_commit owner ring gs ys g s tx at y d f vote own.own cut e k.1)

  takes_kept : (tx : Draw) (at : ℕ) (f : Frozen) → (o : IsMineOpen owner gs ys g s tx (At.Repart at) None) → o.story.vote ≡ Some (Ballot.Yes f) → holds s.core.arc at ≡ false → (can_repart s.core at f && not (has_key_of s.pairs (taken at f).pairs)) ≡ true
      → Lands tx (Ballot.Yes f) (decided (taking_group s at f) tx (Moved at None))
  takes_kept tx at f o vote e c =
      let y = o.story in
      let d = o.deciding in
      let own = own_is owner gs ys g s tx (At.Repart at) None y d in
      let out : Outcome = Moved at None in
      let b = decided_group (taking_group s at f) tx out in
      let may = (and_parts (can_repart s.core at f) (not (has_key_of s.pairs (taken at f).pairs)) c).0 in
      let both : (can_cut f.arc at && can_join s.core.arc (before f.arc at)) ≡ true = sym (cond-false (holds s.core.arc at) (can_cut s.core.arc at) (can_cut f.arc at && can_join s.core.arc (before f.arc at)) e) ∙ may in
      lands_decided tx (Ballot.Yes f) y out b d.there
      (decide_facts gs ys owner g s b tx (At.Repart at) d.order None y out k.0 fact d.lock d.there (decision_of s (taking_group s at f) tx out refl refl refl (λ h q. q)) (λ na. earned_by y f vote own.watch))
      (take_commit owner ring gs ys g s tx at y d f vote own.own (and_parts (can_cut f.arc at) (can_join s.core.arc (before f.arc at)) both).0 e k.1)

  hear_kept : (tx : Draw) (f : Frozen) (by : ℕ) → (o : IsMineOpen owner gs ys g s tx At.Merge None) → o.story.vote ≡ Some (Ballot.Yes f) → same_draw f.succ.group s.core.id ≡ false
      → Lands tx (Ballot.Yes f) (heard_group s tx At.Merge o.deciding.order (record { frozen = f; by = by }), Was.Changed)
  hear_kept tx f by o vote e =
      let y = o.story in
      let d = o.deciding in
      let own = own_is owner gs ys g s tx At.Merge None y d in
      let h : Heard = record { frozen = f; by = by } in
      let s' = heard_group s tx At.Merge d.order h in
      let y' : Story = record y { watch = merge_watch s.core (Some h) } in
      let ys' = put ys tx (Some y') in
      subst (λ z. Kept owner ring (put gs g (Some s')) z) (sym (reported_at ys tx (with_answer s.core (Ballot.Yes f) Was.Changed) y d.there)) (
        hear_facts gs ys owner g s tx d.order y h k.0 fact d.lock d.there vote (λ q. names_differ f.succ.group s.core.id e (q ∙ sym named)),
        whole_change ring gs ys ys' g s s' fact (outcome_like ys tx y y' d.there refl)
            (let a = eff_by (decisions ys) s (Coordinating tx At.Merge d.order None) d.lock ∙ living_is s own.here in
            let b : eff (decisions ys') (Some s') ≡ Some s' = living_is s' own.here in
            (ap arc_of a ∙ sym (ap arc_of b), ap succ_of a ∙ sym (ap succ_of b), ap pred_of a ∙ sym (ap pred_of b), ap pairs_of a ∙ sym (ap pairs_of b))) k.1,
      )

  closes_kept : (tx : Draw) (f : Frozen) → (o : IsMineOpen owner gs ys g s tx At.Merge None) → o.story.vote ≡ Some (Ballot.Yes f) → same_draw f.succ.group s.core.id ≡ true → Lands tx (Ballot.Yes f) (decided (closing_group s f) tx (Merged (merged_route s.core f)))
  closes_kept tx f o vote e =
      let y = o.story in
      let d = o.deciding in
      let own = own_is owner gs ys g s tx At.Merge None y d in
      let out : Outcome = Merged (merged_route s.core f) in
      lands_decided tx (Ballot.Yes f) y out (decided_group (closing_group s f) tx out) d.there
      (decide_facts gs ys owner g s (decided_group (closing_group s f) tx out) tx At.Merge d.order None y out k.0 fact d.lock d.there (decision_of s (closing_group s f) tx out refl refl refl (λ h q. q)) (λ na. earned_by y f vote own.watch))
      (merge_closing owner ring gs ys g s tx y f d vote named e k.1)

  migrates_kept : (tx : Draw) (node : ℕ) (f : Frozen) → (o : IsMineOpen owner gs ys g s tx (At.Migrate node) None) → o.story.vote ≡ Some (Ballot.Yes f) → can_migrate s.core node f ≡ true → Lands tx (Ballot.Yes f) (decided (migrated_group s node f) tx (Migrated node))
  migrates_kept tx node f o vote c =
      let y = o.story in
      let d = o.deciding in
      let own = own_is owner gs ys g s tx (At.Migrate node) None y d in
      let out : Outcome = Migrated node in
      let few = (and_parts (is_member s.core.members node && nat_le 2 (length s.core.members)) (nat_le (length (united f.members (node ∷ []))) 9) c).1 in
      lands_decided tx (Ballot.Yes f) y out (decided_group (migrated_group s node f) tx out) d.there
      (decide_facts gs ys owner g s (decided_group (migrated_group s node f) tx out) tx (At.Migrate node) d.order None y out k.0 fact d.lock d.there (decision_of s (migrated_group s node f) tx out refl refl refl (λ h q. q)) (λ na. earned_by y f vote own.watch))
      (migrate_commit owner ring gs ys g s tx node y d f vote few k.1)

  vote_is : (tx : Draw) (f : Frozen) (y : Story) → ys tx ≡ Some y → IsVoteCast ys tx (Ballot.Yes f) → y.vote ≡ Some (Ballot.Yes f)
  vote_is tx f y there h = ap (λ (z : Story). z.vote) (same_Some y h.0 (sym there ∙ h.1)) ∙ h.2

  pub record_kept : (tx : Draw) (vote : Vote) (by : ℕ) → IsVoteCast ys tx vote → Lands tx vote (vote_recorded s.core.lock s tx vote by)
  unfolding mine_open
  record_kept tx vote by h =
      vote_step s tx vote by (Lands tx vote) (record {
        quiet = lands_idle tx vote;
        hears = λ order lock f is_yes other. cast f is_yes (heard_group s tx At.Merge order (record { frozen = f; by = by }), Was.Changed) (hear_kept tx f by (mine_open tx At.Merge order None lock) (voted At.Merge order lock f is_yes) other);
        aborts = λ body order lock why is_no. (let o = mine_open tx body order None lock in let a = abort_kept tx body None o in lands_decided tx vote o.story Abort (decided_group s tx Abort) o.deciding.there a.0 a.1);
        closes = λ order lock f is_yes two may. cast f is_yes (decided (closing_group s f) tx (Merged (merged_route s.core f))) (closes_kept tx f (mine_open tx At.Merge order None lock) (voted At.Merge order lock f is_yes) two);
        gives = λ at order lock f is_yes here can. cast f is_yes (decided (giving_group s at f) tx (Moved at (Some (part_gift s at)))) (gives_kept tx at f (mine_open tx (At.Repart at) order None lock) (voted (At.Repart at) order lock f is_yes) here can);
        takes = λ at order lock f is_yes there can. cast f is_yes (decided (taking_group s at f) tx (Moved at None)) (takes_kept tx at f (mine_open tx (At.Repart at) order None lock) (voted (At.Repart at) order lock f is_yes) there can);
        migrates = λ node order lock f is_yes can. cast f is_yes (decided (migrated_group s node f) tx (Migrated node)) (migrates_kept tx node f (mine_open tx (At.Migrate node) order None lock) (voted (At.Migrate node) order lock f is_yes) can);
      })
    where
      cast : (f : Frozen) → vote ≡ Ballot.Yes f → (r : Group × Effect) → Lands tx (Ballot.Yes f) r → Lands tx vote r
      cast f is_yes r = subst (λ v. Lands tx v r) (sym is_yes)

      voted : (body : Body) (order : ℕ) (lock : s.core.lock ≡ Coordinating tx body order None) → (f : Frozen) → vote ≡ Ballot.Yes f → (mine_open tx body order None lock).story.vote ≡ Some (Ballot.Yes f)
      voted body order lock f is_yes = (let o = mine_open tx body order None lock in vote_is tx f o.story o.deciding.there (subst (IsVoteCast ys tx) is_yes h))

  -- ---- giving up

  pub give_up_kept : (tx : Draw) (l : Lock) → s.core.lock ≡ l
      → (let r = cond (is_coordinating l tx) (aborted s tx) (s, Was.NoEffect tx) in Kept owner ring (put gs g (Some r.0)) (with_story ys tx (with_decision (decided_in r.1))))
  give_up_kept tx Free e = idle_reported owner ring gs ys g s tx (with_decision None) (λ y. refl) k fact
  give_up_kept tx (Coordinating t body order heard) e =
      cond_both (same_draw t tx) _ _ (λ (r : Group × Effect). Kept owner ring (put gs g (Some r.0)) (with_story ys tx (with_decision (decided_in r.1))))
      (λ q. (let o = mine_open tx body order heard (same_lock s.core.lock t tx body order heard e q) in
      subst (λ z. Kept owner ring (put gs g (Some (decided_group s tx Abort))) z) (sym (reported_at ys tx (with_decision (Some Abort)) o.story o.deciding.there)) (abort_kept tx body heard o)))
      (λ q. idle_reported owner ring gs ys g s tx (with_decision None) (λ y. refl) k fact)
  give_up_kept tx (Promised t offer) e = idle_reported owner ring gs ys g s tx (with_decision None) (λ y. refl) k fact
  give_up_kept tx (Watching t watch) e = idle_reported owner ring gs ys g s tx (with_decision None) (λ y. refl) k fact

  -- ---- the watcher's vote is recorded

  abbrev WLands : Draw → Group × Effect → Type 0
  WLands tx r = Kept owner (ring_cut (watch_division s r.1) (ring_out (decided_in r.1) ring s.core.id s.core.succ.group) s.core.id) (born_too s (put gs g (Some r.0)) (watch_division s r.1)) (with_story ys tx (with_decision (decided_in r.1)))

  w_idle : (tx : Draw) → WLands tx (s, Was.NoEffect tx)
  w_idle tx = idle_reported owner ring gs ys g s tx (with_decision None) (λ y. refl) k fact

  w_abort : (tx : Draw) (body : Body) (heard : Option Heard) → (o : IsMineOpen owner gs ys g s tx body heard) → WLands tx (aborted s tx)
  w_abort tx body heard o =
      subst (λ z. Kept owner ring (put gs g (Some (decided_group s tx Abort))) z) (sym (reported_at ys tx (with_decision (Some Abort)) o.story o.deciding.there)) (abort_kept tx body heard o)

  divide_kept : (tx : Draw) (at : ℕ) (heard : Option Heard) → (o : IsMineOpen owner gs ys g s tx (At.Split at tx) heard) → o.story.watch_vote ≡ Some Cast.Yes → can_split s.core at ≡ true → WLands tx (decided (left_group s at tx) tx Divided)
  divide_kept tx at heard o passed c =
      let y = o.story in
      let d = o.deciding in
      let own = own_is owner gs ys g s tx (At.Split at tx) heard y d in
      let none = o.unborn at tx refl in
      let s' = decided_group (left_group s at tx) tx Divided in
      let child = group_of (child_of s at tx) in
      let ys' : Stories = put ys tx (Some (Ends y Divided)) in
      let gt : tx ≡ g → ⊥ = λ q. some_none s (sym fact ∙ ap gs (sym q) ∙ none) in
      let div : Division = record { at = at; child = tx } in
      let lock : division_in s.core.lock ≡ Some div = ap division_in d.lock in
      let cut = cut_is s.core.arc at (and_parts (can_cut s.core.arc at) (nat_le 2 (length s.core.members)) c).0 in
      let mine : (r : Option Division) → r ≡ Some div → Kept owner (ring_cut (Some div) ring g) (put (put gs g (Some s')) tx (Some child)) ys' → Kept owner (ring_cut r ring s.core.id) (born_too s (put gs g (Some s')) r) ys' =
      λ r e z. subst (λ q. Kept owner (ring_cut q ring s.core.id) (born_too s (put gs g (Some s')) q) ys') (sym e) (subst (λ n. Kept owner (ring_cut (Some div) ring n) (put (put gs g (Some s')) tx (Some child)) ys') (sym named) z) in
      subst (λ z. Kept owner (ring_cut (division_in s.core.lock) ring s.core.id) (born_too s (put gs g (Some s')) (division_in s.core.lock)) z) (sym (reported_at ys tx (with_decision (Some Divided)) y d.there))
      (mine (division_in s.core.lock) lock (
        born_facts (put gs g (Some s')) ys' owner g tx s' child
            (decide_facts gs ys owner g s s' tx (At.Split at tx) d.order heard y Divided k.0 fact d.lock d.there
            (decision_of s (left_group s at tx) tx Divided refl refl refl (λ h b. any_keeps (λ c. same_draw c h) s.core.born (tx ∷ []) b))
            (λ na. (λ offer q. absurd (some_none offer (sym q ∙ own.offer)), λ w q. passed)))
            (at-other gs g (Some s') tx gt ∙ none) refl refl ((k.0.story tx y d.there).named ∙ ap Some own.coordinator) (at-same gs g (Some s'))
            (any_new (λ c. same_draw c tx) s.core.born tx (same_name tx tx refl))
            (λ z p q there b u. some_none Divided (ap (λ (x : Story). x.outcome) (same_Some (Ends y Divided) z (sym (at-same ys tx (Some (Ends y Divided))) ∙ there)) ∙ u)),
        divide_commit owner ring gs ys g s tx at heard y d passed none named own.own.0 cut.held cut.inside k.1,
      ))

  -- a child has the transaction's name
  abbrev Opens : Draw → ℕ → Option Heard → Draw → Type 0
  Opens tx at heard child = (o : IsMineOpen owner gs ys g s tx (At.Split at child) heard) → o.story.watch_vote ≡ Some Cast.Yes → can_split s.core at ≡ true → WLands tx (decided (left_group s at child) tx Divided)

  divide_as : (tx : Draw) (at : ℕ) (child : Draw) (heard : Option Heard) → child ≡ tx → Opens tx at heard child
  divide_as tx at child heard e = subst (Opens tx at heard) (sym e) (divide_kept tx at heard)

  merge_kept : (tx : Draw) (h : Heard) → (o : IsMineOpen owner gs ys g s tx At.Merge (Some h)) → o.story.watch_vote ≡ Some Cast.Yes → WLands tx (decided (merged_group s h.frozen) tx (Merged (merged_route s.core h.frozen)))
  merge_kept tx h o passed =
      let y = o.story in
      let d = o.deciding in
      let v = o.heard_vote h refl in
      let out : Outcome = Merged (merged_route s.core h.frozen) in
      let b = decided_group (merged_group s h.frozen) tx out in
      subst (λ z. Kept owner (ring_out (Some out) ring s.core.id s.core.succ.group) (put gs g (Some b)) z) (sym (reported_at ys tx (with_decision (Some out)) y d.there)) (
        decide_facts gs ys owner g s b tx At.Merge d.order (Some h) y out k.0 fact d.lock d.there (decision_of s (merged_group s h.frozen) tx out refl refl refl (λ n q. q)) (λ na. (λ offer q. (h.frozen, v.0), λ w q. passed)),
        subst (λ n. Good (ring_out (Some out) ring n s.core.succ.group) (New gs ys g b tx (Ends y out))) (sym named) (merge_watched owner ring gs ys g s tx y h d v.0 passed v.1 named k.1),
      )

  watch_vote_is : (tx : Draw) (y : Story) → ys tx ≡ Some y → IsWatchVoteCast ys tx Cast.Yes → y.watch_vote ≡ Some Cast.Yes
  watch_vote_is tx y there h = ap (λ (z : Story). z.watch_vote) (same_Some y h.0 (sym there ∙ h.1)) ∙ h.2

  pub watch_record_kept : (tx : Draw) (past : Past) → IsWatchVoteCast ys tx past → WLands tx (watch_recorded s.core.lock s tx past)
  watch_record_kept tx past h =
      watch_step s tx past (WLands tx) (record {
        quiet = w_idle tx;
        aborts = λ body order heard lock none. w_abort tx body heard (mine_open tx body order heard lock);
        divides = λ at child order heard lock is_yes can. (
            let o = mine_open tx (At.Split at child) order heard lock in
            divide_as tx at child heard (own_is owner gs ys g s tx (At.Split at child) heard o.story o.deciding).own.1 o (passed (At.Split at child) order heard lock is_yes) can);
        merges = λ order heard lock is_yes may. merge_kept tx heard (mine_open tx At.Merge order (Some heard) lock) (passed At.Merge order (Some heard) lock is_yes);
      })
    where
      passed : (body : Body) (order : ℕ) (heard : Option Heard) (lock : s.core.lock ≡ Coordinating tx body order heard) → past ≡ Cast.Yes → (mine_open tx body order heard lock).story.watch_vote ≡ Some Cast.Yes
      passed body order heard lock is_yes = (let o = mine_open tx body order heard lock in watch_vote_is tx o.story o.deciding.there (subst (IsWatchVoteCast ys tx) is_yes h))
