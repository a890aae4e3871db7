-- What an invariant needs of one command alone: of a recorded vote, of a watcher's recorded vote, and of an outcome; and that it then holds of what comes of the command.
use Rattle.std.proofs.Common.{◌≡◌, ℕ, ◌&&◌, not, nat_le, Bool, true, false, cond, [], ◌∷◌, length, Option, Some, None, refl, sym, ◌∙◌, ap, is_some}
use Rattle.std.proofs.lemmas.Bool.{cond_both}
use Rattle.sc_base.specs.Definitions.{same_draw, holds, united}
use Rattle.sc_base.proofs.Lemmas.{draw_is}
use Rattle.sc_node_table.specs.Values.{Draw, Watch, Gift, No, Body, Offer, Lock, Free, Coordinating, Promised, Watching, Effect, Route, Frozen, Heard, Outcome, Past, Vote}
use Rattle.sc_words.specs.declared.commands.bodies.Body.TheVariants as By
use Rattle.sc_words.specs.declared.commands.effects.Effect.TheVariants as Was
use Rattle.sc_words.specs.declared.commands.votes.Outcome.TheVariants as Is
use Rattle.sc_words.specs.declared.commands.votes.Past.TheVariants as Cast
use Rattle.sc_words.specs.declared.commands.votes.Vote.TheVariants as Vows
use Rattle.sc_group_table.specs.machine.MachineDefinitions.{Group, heard_group, gone_group, watcher_after, Plan, left_group, decided, committed, granted, participant_answered, asks_watcher, vote_recorded, released, watch_answered, watch_recorded, may_merge, merged_group, merged_route, closing_group, can_repart, giving_group, part_gift, giving_plan, taking_group, taken, taking_plan, has_key_of, can_migrate, migrated_group, can_split, can_gain, can_cut, gained_group, lost_group, welcomed_group, participant_after, settled_in, party_freed, finished}

-- a coordinator that does not wait for its watcher has heard nobody
unheard : (got : Option Heard) → is_some got ≡ false → got ≡ None
unheard None e = refl
unheard (Some heard) e = cc

-- a plan is decided where it can be made, and else has no effect
by_plan : (group : Group) (tx : Draw) (Q : Group × Effect → Type 0) → Q (group, Was.NoEffect tx) → (b : Bool) (after : Group) (outcome : Outcome) → (b ≡ true → Q (decided after tx outcome)) → Q (committed (cond b (Some (after, outcome)) None) group tx)
by_plan group tx Q quiet true after outcome q = q refl
by_plan group tx Q quiet false after outcome q = quiet

-- ---- a participant's vote

-- What holds of all that may come of recording a vote.
pub record VoteWalk (group : Group) (tx : Draw) (vote : Vote) (by : ℕ) (Q : Group × Effect → Type 0) : Type 0 where
  pub quiet : Q (group, Was.NoEffect tx)
  pub hears : (order : ℕ) → group.core.lock ≡ Coordinating tx By.Merge order None → (frozen : Frozen) → vote ≡ Vows.Yes frozen → same_draw frozen.succ.group group.core.id ≡ false → Q (heard_group group tx By.Merge order (record { frozen = frozen; by = by }), Was.Changed)
  pub aborts : (body : Body) (order : ℕ) → group.core.lock ≡ Coordinating tx body order None → (why : No) → vote ≡ Vows.No why → Q (decided group tx Is.Abort)
  pub closes : (order : ℕ) → group.core.lock ≡ Coordinating tx By.Merge order None → (frozen : Frozen) → vote ≡ Vows.Yes frozen → same_draw frozen.succ.group group.core.id ≡ true → may_merge group frozen ≡ true
      → Q (decided (closing_group group frozen) tx (Is.Merged (merged_route group.core frozen)))
  pub gives : (at order : ℕ) → group.core.lock ≡ Coordinating tx (By.Repart at) order None → (frozen : Frozen) → vote ≡ Vows.Yes frozen → holds group.core.arc at ≡ true → can_repart group.core at frozen ≡ true
      → Q (decided (giving_group group at frozen) tx (Is.Moved at (Some (part_gift group at))))
  pub takes : (at order : ℕ) → group.core.lock ≡ Coordinating tx (By.Repart at) order None → (frozen : Frozen) → vote ≡ Vows.Yes frozen → holds group.core.arc at ≡ false
      → (can_repart group.core at frozen && not (has_key_of group.pairs (taken at frozen).pairs)) ≡ true → Q (decided (taking_group group at frozen) tx (Is.Moved at None))
  pub migrates : (node order : ℕ) → group.core.lock ≡ Coordinating tx (By.Migrate node) order None → (frozen : Frozen) → vote ≡ Vows.Yes frozen → can_migrate group.core node frozen ≡ true → Q (decided (migrated_group group node frozen) tx (Is.Migrated node))

module _ (group : Group) (tx : Draw) (vote : Vote) (by : ℕ) (Q : Group × Effect → Type 0) (k : VoteWalk group tx vote by Q) where
  by_granted : (body : Body) (order : ℕ) → group.core.lock ≡ Coordinating tx body order None → (frozen : Frozen) → vote ≡ Vows.Yes frozen → Q (granted body group tx order frozen by)
  by_granted By.Merge order lock frozen votes =
      cond_both (same_draw frozen.succ.group group.core.id) _ _ Q
      (λ two. by_plan group tx Q k.quiet (may_merge group frozen) (closing_group group frozen) (Is.Merged (merged_route group.core frozen)) (k.closes order lock frozen votes two)) (k.hears order lock frozen votes)
  by_granted (By.Repart at) order lock frozen votes =
      cond_both (holds group.core.arc at) (giving_plan group at frozen) (taking_plan group at frozen) (λ (plan : Plan). Q (committed plan group tx))
      (λ here. by_plan group tx Q k.quiet (can_repart group.core at frozen) (giving_group group at frozen) (Is.Moved at (Some (part_gift group at))) (k.gives at order lock frozen votes here))
      (λ there. by_plan group tx Q k.quiet (can_repart group.core at frozen && not (has_key_of group.pairs (taken at frozen).pairs)) (taking_group group at frozen) (Is.Moved at None) (k.takes at order lock frozen votes there))
  by_granted (By.Migrate node) order lock frozen votes = by_plan group tx Q k.quiet (can_migrate group.core node frozen) (migrated_group group node frozen) (Is.Migrated node) (k.migrates node order lock frozen votes)
  by_granted (By.Split at child) order lock frozen votes = k.quiet

  by_answer : (cast : Vote) → vote ≡ cast → (body : Body) (order : ℕ) → group.core.lock ≡ Coordinating tx body order None → Q (participant_answered cast body group tx order by)
  by_answer (Vows.Yes frozen) votes body order lock = by_granted body order lock frozen votes
  by_answer (Vows.No why) fact body order lock = k.aborts body order lock why fact

  -- a vote is counted only where the participant was not heard before
  by_heard : (body : Body) (order : ℕ) (got : Option Heard) → group.core.lock ≡ Coordinating tx body order got → asks_watcher body got ≡ false → Q (participant_answered vote body group tx order by)
  by_heard By.Merge order got lock e = by_answer vote refl By.Merge order (lock ∙ ap (Coordinating tx By.Merge order) (unheard got e))
  by_heard (By.Repart at) order got lock e = by_answer vote refl (By.Repart at) order (lock ∙ ap (Coordinating tx (By.Repart at) order) (unheard got e))
  by_heard (By.Migrate node) order got lock e = by_answer vote refl (By.Migrate node) order (lock ∙ ap (Coordinating tx (By.Migrate node) order) (unheard got e))
  by_heard (By.Split at child) order got lock e = absurd (let no_way : true ≡ false = e in cc)

  by_vote : (lock : Lock) → group.core.lock ≡ lock → Q (vote_recorded lock group tx vote by)
  by_vote (Coordinating t body order got) e =
      cond_both (same_draw t tx) _ _ Q
      (λ same. cond_both (asks_watcher body got) _ _ Q (λ _. k.quiet) (λ f. by_heard body order got (e ∙ ap (λ d. Coordinating d body order got) (draw_is t tx same)) f)) (λ _. k.quiet)
  by_vote Free e = k.quiet
  by_vote (Promised t offer) e = k.quiet
  by_vote (Watching t watch) e = k.quiet

  -- so of what comes of it
  pub vote_step : Q (vote_recorded group.core.lock group tx vote by)
  vote_step = by_vote group.core.lock refl

-- where all that is decided does, with the transaction's lock
pub decided_walk : (group : Group) (tx : Draw) (vote : Vote) (by : ℕ) (Q : Group × Effect → Type 0) → Q (group, Was.NoEffect tx)
    → ((order : ℕ) → group.core.lock ≡ Coordinating tx By.Merge order None → (frozen : Frozen) → vote ≡ Vows.Yes frozen → Q (heard_group group tx By.Merge order (record { frozen = frozen; by = by }), Was.Changed))
    → ((body : Body) (order : ℕ) → group.core.lock ≡ Coordinating tx body order None → (after : Group) (outcome : Outcome) → after.core.gone ≡ group.core.gone → Q (decided after tx outcome)) → VoteWalk group tx vote by Q
decided_walk group tx vote by Q quiet hears decides = record {
  quiet = quiet;
  hears = λ order lock frozen votes other. hears order lock frozen votes;
  aborts = λ body order lock why no. decides body order lock group Is.Abort refl;
  closes = λ order lock frozen votes two may. decides By.Merge order lock (closing_group group frozen) _ refl;
  gives = λ at order lock frozen votes here can. decides (By.Repart at) order lock (giving_group group at frozen) _ refl;
  takes = λ at order lock frozen votes there can. decides (By.Repart at) order lock (taking_group group at frozen) _ refl;
  migrates = λ node order lock frozen votes can. decides (By.Migrate node) order lock (migrated_group group node frozen) _ refl;
}

-- ---- a watcher's vote

-- What holds of all that may come of recording a watcher's vote.
pub record WatchWalk (group : Group) (tx : Draw) (vote : Past) (Q : Group × Effect → Type 0) : Type 0 where
  pub quiet : Q (group, Was.NoEffect tx)
  pub aborts : (body : Body) (order : ℕ) (got : Option Heard) → group.core.lock ≡ Coordinating tx body order got → (vote ≡ Cast.Yes → ⊥) → Q (decided group tx Is.Abort)
  pub divides : (at : ℕ) (child : Draw) (order : ℕ) (got : Option Heard) → group.core.lock ≡ Coordinating tx (By.Split at child) order got → vote ≡ Cast.Yes → can_split group.core at ≡ true → Q (decided (left_group group at child) tx Is.Divided)
  pub merges : (order : ℕ) (heard : Heard) → group.core.lock ≡ Coordinating tx By.Merge order (Some heard) → vote ≡ Cast.Yes → may_merge group heard.frozen ≡ true
      → Q (decided (merged_group group heard.frozen) tx (Is.Merged (merged_route group.core heard.frozen)))

module _ (group : Group) (tx : Draw) (vote : Past) (Q : Group × Effect → Type 0) (k : WatchWalk group tx vote Q) where
  by_released : (body : Body) (order : ℕ) (got : Option Heard) → group.core.lock ≡ Coordinating tx body order got → vote ≡ Cast.Yes → Q (released body got group tx)
  by_released By.Merge order (Some heard) lock votes = by_plan group tx Q k.quiet (may_merge group heard.frozen) (merged_group group heard.frozen) (Is.Merged (merged_route group.core heard.frozen)) (k.merges order heard lock votes)
  by_released (By.Split at child) order got lock votes = by_plan group tx Q k.quiet (can_split group.core at) (left_group group at child) Is.Divided (k.divides at child order got lock votes)
  by_released By.Merge order None lock votes = k.quiet
  by_released (By.Repart at) order got lock votes = k.quiet
  by_released (By.Migrate node) order got lock votes = k.quiet

  by_watch_answer : (cast : Past) → vote ≡ cast → (body : Body) (order : ℕ) (got : Option Heard) → group.core.lock ≡ Coordinating tx body order got → Q (watch_answered cast body got group tx)
  by_watch_answer Cast.Yes votes body order got lock = by_released body order got lock votes
  by_watch_answer (Cast.No why) fact body order got lock = k.aborts body order got lock (λ votes. (let no_way : Cast.No why ≡ Cast.Yes = sym fact ∙ votes in cc))
  by_watch_answer Cast.Ended fact body order got lock = k.aborts body order got lock (λ votes. (let no_way : Cast.Ended ≡ Cast.Yes = sym fact ∙ votes in cc))

  by_watch : (lock : Lock) → group.core.lock ≡ lock → Q (watch_recorded lock group tx vote)
  by_watch (Coordinating t body order got) e =
      cond_both (same_draw t tx) _ _ Q
      (λ same. cond_both (asks_watcher body got) _ _ Q (λ _. by_watch_answer vote refl body order got (e ∙ ap (λ d. Coordinating d body order got) (draw_is t tx same))) (λ _. k.quiet)) (λ _. k.quiet)
  by_watch Free e = k.quiet
  by_watch (Promised t offer) e = k.quiet
  by_watch (Watching t watch) e = k.quiet

  -- so of what comes of it
  pub watch_step : Q (watch_recorded group.core.lock group tx vote)
  watch_step = by_watch group.core.lock refl

-- ---- an outcome

-- What holds of all that may come of an outcome, at a participant and at a watcher.
pub record FinishWalk (group : Group) (tx : Draw) (Q : Outcome → Group × Effect → Type 0) : Type 0 where
  pub quiet : (outcome : Outcome) → Q outcome (group, Was.NoEffect tx)
  pub stays : (offer : Offer) → group.core.lock ≡ Promised tx offer → Q Is.Abort (party_freed group tx, Was.Decided Is.Abort)
  pub goes : (offer : Offer) → group.core.lock ≡ Promised tx offer → (into : Route) → Q (Is.Merged into) (party_freed (gone_group group into) tx, Was.Decided (Is.Merged into))
  pub gains : (offer : Offer) → group.core.lock ≡ Promised tx offer → (at : ℕ) (gift : Gift) → (can_gain group.core offer at && not (has_key_of group.pairs gift.pairs)) ≡ true
      → Q (Is.Moved at (Some gift)) (party_freed (gained_group group offer at gift) tx, Was.Decided (Is.Moved at (Some gift)))
  pub loses : (offer : Offer) → group.core.lock ≡ Promised tx offer → (at : ℕ) → can_cut group.core.arc at ≡ true → Q (Is.Moved at None) (party_freed (lost_group group at) tx, Was.Decided (Is.Moved at None))
  pub welcomes : (offer : Offer) → group.core.lock ≡ Promised tx offer → (node : ℕ) → nat_le (length (united group.core.members (node ∷ []))) 9 ≡ true → Q (Is.Migrated node) (party_freed (welcomed_group group node) tx, Was.Decided (Is.Migrated node))
  pub sees_end : (watch : Watch) → group.core.lock ≡ Watching tx watch → (outcome : Outcome) → Q outcome (party_freed (watcher_after outcome group watch) tx, Was.Decided outcome)

module _ (group : Group) (tx : Draw) (Q : Outcome → Group × Effect → Type 0) (k : FinishWalk group tx Q) where
  by_party : (outcome : Outcome) (b : Bool) (after : Group) → (b ≡ true → Q outcome (party_freed after tx, Was.Decided outcome)) → Q outcome (settled_in (cond b (Some after) None) group tx outcome)
  by_party outcome true after q = q refl
  by_party outcome false after q = k.quiet outcome

  by_outcome : (offer : Offer) → group.core.lock ≡ Promised tx offer → (outcome : Outcome) → Q outcome (settled_in (participant_after outcome group offer) group tx outcome)
  by_outcome offer lock Is.Abort = k.stays offer lock
  by_outcome offer lock (Is.Merged into) = k.goes offer lock into
  by_outcome offer lock (Is.Moved at (Some gift)) = by_party (Is.Moved at (Some gift)) (can_gain group.core offer at && not (has_key_of group.pairs gift.pairs)) (gained_group group offer at gift) (k.gains offer lock at gift)
  by_outcome offer lock (Is.Moved at None) = by_party (Is.Moved at None) (can_cut group.core.arc at) (lost_group group at) (k.loses offer lock at)
  by_outcome offer lock (Is.Migrated node) = by_party (Is.Migrated node) (nat_le (length (united group.core.members (node ∷ []))) 9) (welcomed_group group node) (k.welcomes offer lock node)
  by_outcome offer lock Is.Divided = k.quiet Is.Divided

  by_finish : (lock : Lock) → group.core.lock ≡ lock → (outcome : Outcome) → Q outcome (finished lock group tx outcome)
  by_finish (Promised t offer) e outcome = cond_both (same_draw t tx) _ _ (Q outcome) (λ same. by_outcome offer (e ∙ ap (λ d. Promised d offer) (draw_is t tx same)) outcome) (λ _. k.quiet outcome)
  by_finish (Watching t watch) e outcome = cond_both (same_draw t tx) _ _ (Q outcome) (λ same. k.sees_end watch (e ∙ ap (λ d. Watching d watch) (draw_is t tx same)) outcome) (λ _. k.quiet outcome)
  by_finish Free e outcome = k.quiet outcome
  by_finish (Coordinating t body order got) e outcome = k.quiet outcome

  -- so of what comes of it
  pub finish_step : (outcome : Outcome) → Q outcome (finished group.core.lock group tx outcome)
  finish_step = by_finish group.core.lock refl
