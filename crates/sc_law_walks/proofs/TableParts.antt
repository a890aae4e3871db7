-- What holds of any replica with its mails is kept while the replica offers, is elected, stops, and executes entries.
use Rattle.std.proofs.Common.{◌≡◌, ℕ, ◌-◌, ◌^◌, ◌&&◌, eqb, Bool, true, false, cond, List, [], ◌∷◌, ◌++◌, Option, Some, None, refl}
use Rattle.sc_base.specs.Definitions.{Each, is_member, least_of}
use Rattle.std.proofs.lemmas.Bool.{cond_both, and_parts}
use Rattle.sc_node_table.specs.NodeDefinitions.{at_slot, has_act, with_act, act_queued, elected, ended, stopped, saw, left_gone, left, is_among, looked_for, looked, executed_one, child_at, next_child, has_room, next_ready, ending, executed_ready, all_ready, executed, pumped, ReplicaState, Place, Executed, next, members, childless}
use Rattle.sc_node_table.specs.Values.{Ballot, Command, Base, Route, Mail}
use Rattle.sc_group_table.specs.machine.MachineDefinitions.{child_by}
use Rattle.sc_words.proofs.PaxosProofs.PaxosLemmas.{at_least_itself, Each-append}
use Rattle.sc_words.specs.paxos.PaxosDefinitions.{IsAtLeast, below}
use Rattle.sc_law_walks.proofs.Ways.{either_way}
use Rattle.sc_law_walks.specs.WalkDefinitions.{IsFiledOnMail}
use Rattle.sc_law_walks.proofs.PlaceWalks.{entered_place}
use Rattle.sc_law_walks.proofs.TableWalks.{TableWalk, MayEnter}
use Rattle.sc_law_walks.proofs.TablePumps.{TableOffers, pump_keeps}

-- a ballot that is seen is no later than the greatest
pub seen_top : (ballot : Ballot) (place : Place) → IsAtLeast (saw ballot place).0.top ballot
unfolding saw ended
seen_top ballot (r, mails) =
    let seen : ReplicaState = cond (below r.top ballot) (record r { top = ballot }) r in
    let s : IsAtLeast seen.top ballot = cond_both (below r.top ballot) (record r { top = ballot }) r (λ (x : ReplicaState). IsAtLeast x.top ballot) (λ _. at_least_itself ballot) (λ f. f) in
    either_way (λ (p : Place). IsAtLeast p.0.top ballot) (r.running && below r.leader.ballot ballot) (stopped (Some ballot.node) (seen, mails)) (seen, mails) s s

-- a ballot that is seen leaves the acceptor
pub seen_acceptor : (ballot : Ballot) (place : Place) → (saw ballot place).0.acceptor ≡ place.0.acceptor
unfolding saw ended
seen_acceptor ballot (r, mails) =
    let seen : ReplicaState = cond (below r.top ballot) (record r { top = ballot }) r in
    let same : seen.acceptor ≡ r.acceptor = either_way (λ (x : ReplicaState). x.acceptor ≡ r.acceptor) (below r.top ballot) (record r { top = ballot }) r refl refl in
    either_way (λ (p : Place). p.0.acceptor ≡ r.acceptor) (r.running && below r.leader.ballot ballot) (stopped (Some ballot.node) (seen, mails)) (seen, mails) same same

-- what is ready is executed by one that runs
pub ready_so : (r : ReplicaState) (command : Command) → next_ready r ≡ Some command → (r.running ≡ true) × (at_slot r.ready (next r) ≡ Some command)
ready_so r command e = by r.running (has_room r) refl e
  where
    by : (b c : Bool) → r.running ≡ b → cond (b && c) (at_slot r.ready (next r)) None ≡ Some command → (r.running ≡ true) × (at_slot r.ready (next r) ≡ Some command)
    by true true t e2 = (t, e2)
    by true false t e2 = cc
    by false c f e2 = cc

module _ (w : TableWalk) where
  abbrev pub Before : Place → Type 0
  Before place = w.facts.Early place

  abbrev pub After : Place → Type 0
  After place = w.facts.Late place

  abbrev pub AfterAll : Executed → Type 0
  AfterAll step = w.facts.Late step.0 × Each w.facts.Child step.1

  -- ---- the pump

  offers_kept : TableOffers After
  offers_kept = record {
    turned = w.states.turned;
    offers_value = w.states.offers_value;
    offers_noop = w.states.offers_noop;
    offers_act = w.states.offers_act;
    offers_call = w.states.offers_call;
  }

  pub pumps : (place : Place) → After place → After (pumped place)
  pumps place k = (pump_keeps After offers_kept place k).0

  -- a command of a transaction waits last, unless there is one of its kind
  pub act_waits : (act : Command) (r : ReplicaState) (mails : List Mail) → IsFiledOnMail act → r.running ≡ true → w.facts.Files act → After (r, mails) → After (with_act act r, mails)
  act_waits act r mails good on brought k = cond_both (has_act act r) r (record r { acts = r.acts ++ act ∷ [] }) (λ (x : ReplicaState). After (x, mails)) (λ _. k) (λ f. w.states.filed act r mails on good f brought k)

  pub acts_pump : (act : Command) (place : Place) → IsFiledOnMail act → place.0.running ≡ true → w.facts.Files act → Before place → After (act_queued act place)
  unfolding act_queued
  acts_pump act (r, mails) good on brought k = pumps (with_act act r, mails) (act_waits act r mails good on brought (w.states.late (r, mails) k))

  -- ---- leaders

  pub self_election : (place : Place) → Before place → After (elected place)
  unfolding elected
  self_election (r, mails) k = either_way After (eqb r.top.round (2 ^ 32 - 1)) _ _ (w.states.late (r, mails) k) (w.states.elected r mails k)

  pub sees_ballot : (ballot : Ballot) (place : Place) → w.facts.Round ballot → Before place → Before (saw ballot place)
  unfolding saw
  sees_ballot ballot (r, mails) good k =
      let seen : ReplicaState = cond (below r.top ballot) (record r { top = ballot }) r in
      cond_both (r.running && below r.leader.ballot ballot) (stopped (Some ballot.node) (seen, mails)) (seen, mails) Before
      (λ t. (let on = and_parts r.running (below r.leader.ballot ballot) t in w.states.overtaken ballot r mails good on.0 on.1 k))
      (λ f. cond_both (below r.top ballot) (record r { top = ballot }) r (λ (x : ReplicaState). Before (x, mails)) (λ t. w.states.seen ballot r mails good t f k) (λ _. k))

  -- ---- an entry, and what was ready after it

  gone_leaves : (gone : Option Route) (place : Place) → place.0.group.core.gone ≡ gone → place.0.running ≡ true → Before place → Before (left_gone gone place)
  gone_leaves (Some into) (r, mails) e on k = w.states.goes into r mails on e k
  gone_leaves None (r, mails) e on k =
      either_way Before (is_member (members r) r.me) (r, mails) (stopped (Some (least_of (members r))) (r, mails)) k (w.states.stops (Some (least_of (members r))) r mails on k)

  leaves : (place : Place) → Before place → Before (left place)
  unfolding left
  leaves (r, mails) k = cond_both r.running (left_gone r.group.core.gone (r, mails)) (r, mails) Before (λ on. gone_leaves r.group.core.gone (r, mails) refl on k) (λ _. k)

  looks_by : (gone : Option Route) (place : Place) → place.0.running ≡ false → Before place → After (looked_for gone place)
  looks_by (Some into) place off k = w.states.late place k
  looks_by None (r, mails) off k =
      either_way After (is_among (members r) r.hint) (r, mails) _ (w.states.late (r, mails) k)
      (either_way After (eqb (least_of (members r)) r.me) (elected (record r { hint = Some r.me }, mails)) (record r { hint = Some (least_of (members r)) }, mails)
      (self_election (record r { hint = Some r.me }, mails) (w.states.hinted (Some r.me) r mails off k))
      (w.states.late (record r { hint = Some (least_of (members r)) }, mails) (w.states.hinted (Some (least_of (members r))) r mails off k)))

  pub looks : (place : Place) → Before place → After (looked place)
  unfolding looked
  looks (r, mails) k = cond_both r.running (r, mails) (looked_for r.group.core.gone (r, mails)) After (λ _. w.states.late (r, mails) k) (λ off. looks_by r.group.core.gone (r, mails) off k)

  entry_by : (counted : Bool) (command : Command) (r : ReplicaState) (mails : List Mail) → MayEnter w.facts counted command r → Before (r, mails) → Before (entered_place counted command (r, mails))
  entry_by true command r mails may k = w.states.counted_entry command r mails may.0 may.1 may.2 k
  entry_by false command r mails may k = w.states.learnt_entry may.0 may.1 command r mails may.2 may.3 k

  -- the entry, where the invariant holds with its slot cleared
  entry_goes : (counted : Bool) (command : Command) (place : Place) → Before (entered_place counted command place) → After (executed_one counted command place)
  unfolding executed_one
  entry_goes counted command (r, mails) k = looks (left (entered_place counted command (r, mails))) (leaves (entered_place counted command (r, mails)) k)

  child_by_entry : (counted : Bool) (command : Command) (r : ReplicaState) (mails : List Mail) → MayEnter w.facts counted command r → Before (r, mails) → (o : Option Base) → child_by r.group command ≡ o → Each w.facts.Child (child_at r.me o)
  child_by_entry counted command r mails may k None e = tt
  child_by_entry counted command r mails may k (Some child) e =
      cond_both (is_member child.core.members r.me) (child ∷ []) [] (Each w.facts.Child) (λ member. (w.states.children counted command r mails child may (record { made = e; member = member }) k, tt)) (λ _. tt)

  -- the child of an entry, before those of what follows it
  children_by : (counted : Bool) (command : Command) (r : ReplicaState) (mails : List Mail) (rest : List Base) → MayEnter w.facts counted command r → Before (r, mails) → Each w.facts.Child rest → Each w.facts.Child (next_child command r ++ rest)
  children_by counted command r mails rest may k more = Each-append w.facts.Child (next_child command r) rest (child_by_entry counted command r mails may k (child_by r.group command) refl) more

  ready_by : (es : List (ℕ × Command)) (place : Place) (o : Option Command) → next_ready place.0 ≡ o → After place → ((p : Place) → After p → AfterAll (executed_ready es p))
      → AfterAll (elim o [ None ↦ childless place | Some command ↦ ending (next_child command place.0) (executed_ready es (executed_one true command place)) ])
  ready_by es place None e k more = (k, tt)
  ready_by es (r, mails) (Some command) e k more =
      let so = ready_so r command e in
      let again = w.states.again command r mails so.0 so.1 k in
      let after = executed_ready es (executed_one true command (r, mails)) in
      let rest : AfterAll after = more (executed_one true command (r, mails)) (entry_goes true command (r, mails) (entry_by true command r mails (so.0, so.1, again.1) again.0)) in
      (pumps after.0 rest.0, children_by true command r mails after.1 (so.0, so.1, again.1) again.0 rest.1)

  ready_executed : (es : List (ℕ × Command)) (place : Place) → After place → AfterAll (executed_ready es place)
  unfolding executed_ready
  ready_executed [] place k = (k, tt)
  ready_executed (e ∷ es) place k = ready_by es place (next_ready place.0) refl k (λ p q. ready_executed es p q)

  -- .. and what was ready after it
  pub execution : (counted : Bool) (command : Command) (place : Place) → MayEnter w.facts counted command place.0 → Before place → AfterAll (executed counted command place)
  unfolding executed
  execution counted command (r, mails) may k =
      let after : Place = executed_one counted command (r, mails) in
      let rest : AfterAll (all_ready after) = ready_executed after.0.ready after (entry_goes counted command (r, mails) (entry_by counted command r mails may k)) in
      (pumps (all_ready after).0 rest.0, children_by counted command r mails (all_ready after).1 may k rest.1)
