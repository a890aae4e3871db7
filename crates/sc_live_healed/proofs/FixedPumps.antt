-- An invariant of a replica of a group that is not reshaped is kept while the replica offers and executes entries.
use Rattle.std.proofs.Common.{◌≡◌, ℕ, ◌-◌, Bool, true, List, [], ◌∷◌, ◌++◌, replicate, Option, Some, None, refl, sym, ◌∙◌, ap, subst, inl, inr}
use Rattle.sc_base.specs.Definitions.{Each, is_member}
use Rattle.std.proofs.lemmas.Bool.{cond_both, cond-true}
use Rattle.sc_words.proofs.PaxosProofs.PaxosLemmas.{Each-among, Each-from}
use Rattle.sc_node_table.specs.NodeDefinitions.{left_gone, left, is_among, looked_for, looked, executed_one, next_child, next_ready, ending, executed_ready, all_ready, executed, pumped, ReplicaState, Place, Executed, next, members, childless, slots_ahead}
use Rattle.sc_node_table.specs.Values.{Command, Noop, Call, Base, Core, Route, Mail}
use Rattle.sc_law_walks.proofs.WalkLemmas.{ready_so, IsOpenOffer, TableOffers, pump_keeps, entered_place}
use Rattle.sc_paxos_law.proofs.Lemmas.{among-member, place_among}
use Rattle.sc_live_healed.proofs.FixedWalks.{FixedWalk, IsMember}
use Rattle.sc_live_healed.proofs.FixedParts.{ready_fixed}
use Rattle.sc_live_healed.specs.HealedDefinitions.{IsFixedCommand}

-- a request or a Noop makes no child
no_children : (base : Base) (command : Command) (r : ReplicaState) (rest : List Base) → IsFixedCommand base command → rest ≡ [] → next_child command r ++ rest ≡ []
no_children base Noop r rest f e = e
no_children base (Call client seq op) r rest f e = e
no_children base _ r rest (inl f) e = absurd f
no_children base _ r rest (inr g) e = absurd (cc)

module _ (base : Base) (me : ℕ) (w : FixedWalk base me) where
  abbrev pub P : Place → Type 0
  P place = w.P place

  -- the members of each of these slots are members of the group
  abbrev pub OfMembers : List (List ℕ) → Type 0
  OfMembers sets = Each (λ (set : List ℕ). Each (IsMember base) set) sets

  pub set_members : Each (IsMember base) base.core.members
  set_members = Each-from (IsMember base) base.core.members (λ node a. among-member base.core.members node a)

  pub sets_members : (sets : List (List ℕ)) → sets ≡ replicate slots_ahead base.core.members → OfMembers sets
  sets_members sets e = subst OfMembers (sym e) (set_members, (set_members, (set_members, (set_members, tt))))

  pub open_members : (place : Place) → P place → OfMembers place.0.sets
  open_members place k = sets_members place.0.sets (w.frame place k).fixed.sets

  -- ---- the pump, where no command of a transaction waits

  set_of_members : (slot : ℕ) (set : List ℕ) (command : Command) (r : ReplicaState) (mails : List Mail) → IsOpenOffer slot set command r → P (r, mails) → Each (IsMember base) set
  set_of_members slot set command r mails at k = Each-among (λ (nodes : List ℕ). Each (IsMember base) nodes) r.sets set (open_members (r, mails) k) (place_among r.sets (slot - next r) set at.members_are)

  offers_kept : TableOffers P
  offers_kept = record {
    turned = w.turned;
    offers_value = λ slot set command r mails on at none e k. w.offers_value slot set command r mails on at.low at.near none e (set_of_members slot set command r mails at k) k;
    offers_noop = λ slot set r mails on at none e k. w.offers_noop slot set r mails on at.low at.near none e (set_of_members slot set Noop r mails at k) k;
    offers_act = λ slot set act acts r mails on at none e k. absurd (no_act act acts r (w.frame (r, mails) k).fixed.acts e);
    offers_call = λ slot set command backlog r mails on at none e k. w.offers_call slot set command backlog r mails on at.low at.near none e (set_of_members slot set command r mails at k) k;
  }
    where
      no_act : (act : Command) (acts : List Command) (r : ReplicaState) → r.acts ≡ [] → r.acts ≡ act ∷ acts → ⊥
      no_act act acts r none e = cc

  pub pumps : (place : Place) → P place → P (pumped place)
  pumps place k = (pump_keeps P offers_kept place k).0

  -- the pump executes nothing
  pub pumps_next : (place : Place) → P place → next (pumped place).0 ≡ next place.0
  pumps_next place k = (pump_keeps P offers_kept place k).1

  -- ---- an entry, and what was ready after it

  -- the node stays a member
  pub is_still_member : (place : Place) → P place → is_member (members place.0) place.0.me ≡ true
  is_still_member place k =
      let f = w.frame place k in
      ap (λ (core : Core). is_member core.members place.0.me) f.fixed.group ∙ (ap (λ (node : ℕ). is_member base.core.members node) f.me_is ∙ w.fresh.member)

  pub not_gone : (place : Place) → P place → place.0.group.core.gone ≡ None
  not_gone place k = ap (λ (core : Core). core.gone) (w.frame place k).fixed.group ∙ w.fresh.stands

  -- a replica that runs goes on after an entry
  stays_by : (gone : Option Route) (place : Place) → gone ≡ None → is_member (members place.0) place.0.me ≡ true → left_gone gone place ≡ place
  stays_by (Some into) place e t = absurd (cc)
  stays_by None (r, mails) e t = cond-true (is_member (members r) r.me) (r, mails) _ t

  left_same : (place : Place) → P place → left place ≡ place
  unfolding left
  left_same (r, mails) k = cond_both r.running (left_gone r.group.core.gone (r, mails)) (r, mails) (λ (p : Place). p ≡ (r, mails)) (λ _. stays_by r.group.core.gone (r, mails) (not_gone (r, mails) k) (is_still_member (r, mails) k)) (λ _. refl)

  -- and one that does not run has a leader already
  found_by_hint : (gone : Option Route) (place : Place) → gone ≡ None → (leader : ℕ) → place.0.hint ≡ Some leader → is_member (members place.0) leader ≡ true → looked_for gone place ≡ place
  found_by_hint (Some into) place e leader h t = absurd (cc)
  found_by_hint None (r, mails) e leader h t = cond-true (is_among (members r) r.hint) (r, mails) _ (ap (is_among (members r)) h ∙ t)

  looked_same : (place : Place) → P place → looked place ≡ place
  unfolding looked
  looked_same (r, mails) k =
      let f = w.frame (r, mails) k in
      cond_both r.running (r, mails) (looked_for r.group.core.gone (r, mails)) (λ (p : Place). p ≡ (r, mails)) (λ _. refl)
      (λ off. (let s = f.ballots.stopped off in
      found_by_hint r.group.core.gone (r, mails) (not_gone (r, mails) k) s.leader s.hint (ap (λ (core : Core). is_member core.members s.leader) f.fixed.group ∙ s.member)))

  -- the entry, with its slot cleared, is all that happens
  pub entry_is_all : (counted : Bool) (command : Command) (place : Place) → P (entered_place counted command place) → executed_one counted command place ≡ entered_place counted command place
  unfolding executed_one
  entry_is_all counted command (r, mails) k =
      let p : Place = entered_place counted command (r, mails) in
      ap looked (left_same p k) ∙ looked_same p k

  entry_goes : (counted : Bool) (command : Command) (place : Place) → P (entered_place counted command place) → P (executed_one counted command place)
  entry_goes counted command place k = subst P (sym (entry_is_all counted command place k)) k

  -- no child is made
  abbrev pub After : Executed → Type 0
  After step = P step.0 × (step.1 ≡ [])

  ready_by : (es : List (ℕ × Command)) (place : Place) (o : Option Command) → next_ready place.0 ≡ o → P place → ((p : Place) → P p → After (executed_ready es p))
      → After (elim o [ None ↦ childless place | Some command ↦ ending (next_child command place.0) (executed_ready es (executed_one true command place)) ])
  ready_by es place None e k more = (k, refl)
  ready_by es (r, mails) (Some command) e k more =
      let so = ready_so r command e in
      let after = executed_ready es (executed_one true command (r, mails)) in
      let rest : After after = more (executed_one true command (r, mails)) (entry_goes true command (r, mails) (w.counted_entry command r mails so.0 so.1 k)) in
      (pumps after.0 rest.0, no_children base command r after.1 (ready_fixed base r.ready (next r) command so.1 (w.frame (r, mails) k).fixed.ready) rest.1)

  ready_executed : (es : List (ℕ × Command)) (place : Place) → P place → After (executed_ready es place)
  unfolding executed_ready
  ready_executed [] place k = (k, refl)
  ready_executed (e ∷ es) place k = ready_by es place (next_ready place.0) refl k (λ p q. ready_executed es p q)

  -- .. and what was ready after it
  pub execution : (counted : Bool) (command : Command) (place : Place) → IsFixedCommand base command → P (entered_place counted command place) → After (executed counted command place)
  unfolding executed
  execution counted command place f k =
      let after : Place = executed_one counted command place in
      let rest : After (all_ready after) = ready_executed after.0.ready after (entry_goes counted command place k) in
      (pumps (all_ready after).0 rest.0, no_children base command place.0 (all_ready after).1 f rest.1)
