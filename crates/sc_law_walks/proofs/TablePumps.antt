-- What holds of any replica with its mails is kept while the replica offers what was reported to it and what waits in its queues, where each offer keeps it.
use Rattle.std.proofs.Common.{◌≡◌, ℕ, suc, ◌+◌, ◌-◌, ◌<◌, ◌≤◌, ◌&&◌, nat_le, true, List, [], ◌∷◌, length, Option, Some, None, refl, sym, ◌∙◌, ap, subst, arith}
use Rattle.std.specs.Prelude.{is_some, slice_get}
use Rattle.std.specs.List.{list_any}
use Rattle.std.proofs.lemmas.Bool.{cond_both, and_parts}
use Rattle.sc_node_table.specs.Values.{Command, Noop, AnswerBody, Mail, Must, Gap}
use Rattle.sc_words.specs.declared.paxos.answers.Must.TheVariants.{Value, Free as Open}
use Rattle.sc_words.specs.paxos.PaxosDefinitions.{must, Obeys}
use Rattle.sc_node_table.specs.NodeDefinitions.{turned_down, answered, Found, is_act, from_backlog, from_acts, from_queues, found_by, found_for, offered, pumped_from, pumped, ReplicaState, Place, next, settled, may_offer, first_set, taken_at, under_way, is_idle, last_slot, next_queued}
use Rattle.sc_law_walks.proofs.Calls.{next_found}
use Rattle.sc_law_walks.proofs.Ways.{either_way, none_there}
use Rattle.sc_law_walks.specs.WalkDefinitions.{IfThere}

-- What is known of an offer: its slot is open, these are the slot's members, the leader may offer to them, and what was reported there allows the command.
pub record IsOpenOffer (slot : ℕ) (set : List ℕ) (command : Command) (r : ReplicaState) : Type 0 where
  pub low : next r ≤ slot
  pub near : slot < next r + length r.sets
  pub members_are : slice_get r.sets (slot - next r) ≡ Some set
  pub may : may_offer r set ≡ true
  pub obeys : Obeys (must slot r.leader) command

-- what waits at the replica is nothing to it
pub offer_still : (slot : ℕ) (set : List ℕ) (command : Command) (r : ReplicaState) (acts backlog : List Command) → IsOpenOffer slot set command r → IsOpenOffer slot set command (record r { acts = acts; backlog = backlog })
offer_still slot set command r acts backlog at = record { low = at.low; near = at.near; members_are = at.members_are; may = at.may; obeys = at.obeys }

-- That Late is kept by each offer of a replica that runs, at an open slot that it has nothing at: of what was reported there, of nothing new below what was reported, of the head of either queue; and by the answer to a request that gets no slot.
pub record TableOffers (Late : Place → Type 0) : Type 0 where
  pub turned : (command : Command) (answer : AnswerBody) (backlog : List Command) (r : ReplicaState) (mails : List Mail) → r.running ≡ true → r.backlog ≡ command ∷ backlog → turned_down r.group.core command ≡ Some answer → Late (r, mails)
      → Late (record r { backlog = backlog }, answered r.me r.group.core.id answer command mails)
  pub offers_value : (slot : ℕ) (set : List ℕ) (command : Command) (r : ReplicaState) (mails : List Mail) → r.running ≡ true → IsOpenOffer slot set command r → taken_at r slot ≡ None → must slot r.leader ≡ Value command → Late (r, mails) → Late (offered slot set command (r, mails))
  pub offers_noop : (slot : ℕ) (set : List ℕ) (r : ReplicaState) (mails : List Mail) → r.running ≡ true → IsOpenOffer slot set Noop r → taken_at r slot ≡ None → must slot r.leader ≡ Gap → Late (r, mails) → Late (offered slot set Noop (r, mails))
  pub offers_act : (slot : ℕ) (set : List ℕ) (act : Command) (acts : List Command) (r : ReplicaState) (mails : List Mail) → r.running ≡ true → IsOpenOffer slot set act r → taken_at r slot ≡ None → r.acts ≡ act ∷ acts → Late (r, mails) → Late (offered slot set act (record r { acts = acts }, mails))
  pub offers_call : (slot : ℕ) (set : List ℕ) (command : Command) (backlog : List Command) (r : ReplicaState) (mails : List Mail) → r.running ≡ true → IsOpenOffer slot set command r → taken_at r slot ≡ None → r.backlog ≡ command ∷ backlog → Late (r, mails)
      → Late (offered slot set command (record r { backlog = backlog }, mails))

module _ (P : Place → Type 0) (p : TableOffers P) where
  -- a replica that runs, whose next slot and open slots stay
  abbrev Pumps : ℕ → List (List ℕ) → Place → Type 0
  Pumps x all place = P place × (place.0.running ≡ true) × (next place.0 ≡ x) × (place.0.sets ≡ all)

  module _ (x : ℕ) (all : List (List ℕ)) (slot : ℕ) (set : List ℕ) where
    -- .. and which has nothing at the slot, and may offer there
    abbrev At : Place → Type 0
    At place = Pumps x all place × (next place.0 ≤ slot) × (slot < next place.0 + length place.0.sets) × (taken_at place.0 slot ≡ None) × (slice_get place.0.sets (slot - next place.0) ≡ Some set) × (may_offer place.0 set ≡ true)

    -- .. what waits, since nothing was reported
    abbrev Free : Place → Type 0
    Free place = At place × (must slot place.0.leader ≡ Open)

    -- it is so after what was found is offered
    abbrev Finds : Found → Type 0
    Finds found = IfThere (λ command. Pumps x all (offered slot set command found.1)) (Pumps x all found.1) found.0

    offered_so : (command : Command) (r : ReplicaState) (mails : List Mail) → r.running ≡ true → next r ≡ x → r.sets ≡ all → P (offered slot set command (r, mails)) → Pumps x all (offered slot set command (r, mails))
    unfolding offered
    offered_so command r mails on same many k = (k, on, same, many)

    opens : (command : Command) (r : ReplicaState) (mails : List Mail) → Obeys (must slot r.leader) command → At (r, mails) → IsOpenOffer slot set command r
    opens command r mails obeys k = record { low = k.1; near = k.2; members_are = k.4; may = k.5; obeys = obeys }

    opens_free : (command : Command) (r : ReplicaState) (mails : List Mail) → Free (r, mails) → IsOpenOffer slot set command r
    opens_free command r mails k = opens command r mails (subst (λ (what : Must Command). Obeys what command) (sym k.1) tt) k.0

    -- the requests that are turned down are taken out one by one
    module _ (r : ReplicaState) where
      abbrev Left : List Command → List Mail → Type 0
      Left backlog mails = Free (record r { backlog = backlog }, mails)

      abbrev Next : Option Command × List Command × List Mail → Type 0
      Next found = Finds (found.0, (record r { backlog = found.1 }, found.2))

      turned_out : (command : Command) (answer : AnswerBody) (backlog : List Command) (mails : List Mail) → turned_down r.group.core command ≡ Some answer → Left (command ∷ backlog) mails → Left backlog (answered r.me r.group.core.id answer command mails)
      turned_out command answer backlog mails e (k, free) = (((p.turned command answer backlog (record r { backlog = command ∷ backlog }) mails k.0.1 refl e k.0.0, k.0.1, k.0.2, k.0.3), k.1, k.2, k.3, k.4, k.5), free)

      call_offered : (command : Command) (backlog : List Command) (mails : List Mail) → Left (command ∷ backlog) mails → Next (Some command, backlog, mails)
      call_offered command backlog mails (k, free) =
          let before : ReplicaState = record r { backlog = command ∷ backlog } in
          offered_so command (record r { backlog = backlog }) mails k.0.1 k.0.2 k.0.3 (p.offers_call slot set command backlog before mails k.0.1 (opens_free command before mails (k, free)) k.3 refl k.0.0)

      calls_left : (backlog : List Command) (mails : List Mail) → Left backlog mails → Next (next_queued r.me (is_idle r) r.group.core backlog mails)
      calls_left backlog mails k = next_found r.me (is_idle r) r.group.core Left Next (λ cs ms q. q.0.0) call_offered (λ command answer cs ms wait e q. turned_out command answer cs ms e q) backlog mails k

    calls_find : (place : Place) → Free place → Finds (from_backlog place)
    unfolding from_backlog
    calls_find (r, mails) k = calls_left r r.backlog mails k

    acts_find : (acts : List Command) (place : Place) → place.0.acts ≡ acts → Free place → Finds (from_acts acts place)
    acts_find [] place e k = calls_find place k
    acts_find (act ∷ acts) (r, mails) e (k, free) =
        either_way Finds (is_idle r) (Some act, (record r { acts = acts }, mails)) (None, (r, mails))
        (offered_so act (record r { acts = acts }) mails k.0.1 k.0.2 k.0.3 (p.offers_act slot set act acts r mails k.0.1 (opens_free act r mails (k, free)) k.3 e k.0.0)) k.0

    queues_find : (place : Place) → Free place → Finds (from_queues place)
    unfolding from_queues
    queues_find (r, mails) k = either_way Finds (list_any is_act (under_way r)) (None, (r, mails)) (from_acts r.acts (r, mails)) k.0.0 (acts_find r.acts (r, mails) refl k)

    by_find : (what : Must Command) (place : Place) → must slot place.0.leader ≡ what → At place → Finds (found_by what place)
    by_find (Value command) (r, mails) e k =
        offered_so command r mails k.0.1 k.0.2 k.0.3 (p.offers_value slot set command r mails k.0.1 (opens command r mails (subst (λ (what : Must Command). Obeys what command) (sym e) refl) k) k.3 e k.0.0)
    by_find Gap (r, mails) e k =
        offered_so _ r mails k.0.1 k.0.2 k.0.3 (p.offers_noop slot set r mails k.0.1 (opens Noop r mails (subst (λ (what : Must Command). Obeys what Noop) (sym e) tt) k) k.3 e k.0.0)
    by_find Open place e k = queues_find place (k, e)

    slot_finds : (place : Place) → At place → Finds (found_for slot place)
    unfolding found_for
    slot_finds (r, mails) k = by_find (must slot r.leader) (r, mails) refl k

  pump_by : (x : ℕ) (all : List (List ℕ)) (slot : ℕ) (set : List ℕ) (sets : List (List ℕ)) (found : Found) → Finds x all slot set found → ((place : Place) → Pumps x all place → Pumps x all (pumped_from (slot + 1) sets place))
      → Pumps x all (elim (found.0) [ None ↦ found.1 | Some command ↦ pumped_from (slot + 1) sets (offered slot set command found.1) ])
  pump_by x all slot set sets (None, place) k more = k
  pump_by x all slot set sets (Some command, place) k more = more (offered slot set command place) k

  -- these sets are those of the slots from one on
  abbrev Rest : ℕ → List (List ℕ) → ℕ → List (List ℕ) → Type 0
  Rest x all slot sets = (k : ℕ) → slice_get all ((slot - x) + k) ≡ slice_get sets k

  rest_on : (x : ℕ) (all : List (List ℕ)) (slot : ℕ) (set : List ℕ) (sets : List (List ℕ)) → x ≤ slot → Rest x all slot (set ∷ sets) → Rest x all (slot + 1) sets
  rest_on x all slot set sets near are k = (let same : (slot + 1 - x) + k ≡ (slot - x) + suc k = omega (arith, near) in ap (slice_get all) same ∙ are (suc k))

  -- the first of them are the members of the slot
  members_here : (x : ℕ) (all : List (List ℕ)) (slot : ℕ) (set : List ℕ) (sets : List (List ℕ)) (r : ReplicaState) → next r ≡ x → r.sets ≡ all → Rest x all slot (set ∷ sets) → slice_get r.sets (slot - next r) ≡ Some set
  members_here x all slot set sets r same many are =
      let first : slot - x ≡ (slot - x) + 0 = omega arith in
      ap (λ (ss : List (List ℕ)). slice_get ss (slot - next r)) many ∙ ap (λ n. slice_get all (slot - n)) same ∙ ap (slice_get all) first ∙ are 0

  from_pumps : (x : ℕ) (all : List (List ℕ)) (slot : ℕ) (sets : List (List ℕ)) (place : Place) → x ≤ slot → slot + length sets ≤ x + length all → Rest x all slot sets → Pumps x all place → Pumps x all (pumped_from slot sets place)
  unfolding pumped_from
  from_pumps x all slot [] place near low are k = k
  from_pumps x all slot (set ∷ sets) place near low are k =
      let from : next place.0 ≤ slot = (let same = k.2 in omega (arith, near, same)) in
      let up : x ≤ slot + 1 = omega (arith, near) in
      let here : slot < next place.0 + length place.0.sets = (let same = k.2 in let many = ap length k.3 in omega (arith, low, same, many)) in
      let more : (slot + 1) + length sets ≤ x + length all = omega (arith, low) in
      let later : Rest x all (slot + 1) sets = rest_on x all slot set sets near are in
      let members = members_here x all slot set sets place.0 k.2 k.3 are in
      cond_both (is_some (taken_at place.0 slot)) _ _ (Pumps x all) (λ _. from_pumps x all (slot + 1) sets place up more later k)
      (λ none. cond_both (may_offer place.0 set) _ _ (Pumps x all)
      (λ may. pump_by x all slot set sets (found_for slot place) (slot_finds x all slot set place (k, from, here, none_there (taken_at place.0 slot) none, members, may)) (λ p_ q. from_pumps x all (slot + 1) sets p_ up more later q))
      (λ _. k))

  -- the pump, which executes nothing
  pub pump_keeps : (place : Place) → P place → P (pumped place) × (next (pumped place).0 ≡ next place.0)
  unfolding pumped
  pump_keeps place k =
      cond_both (settled place.0 && nat_le (next place.0) last_slot) (pumped_from (next place.0) place.0.sets place) place (λ (after : Place). P after × (next after.0 ≡ next place.0))
      (λ t. (let on = and_parts place.0.running (may_offer place.0 (first_set place.0.sets)) (and_parts (settled place.0) (nat_le (next place.0) last_slot) t).0 in
      let after = from_pumps (next place.0) place.0.sets (next place.0) place.0.sets place (omega arith) (omega arith) (λ j. (let same : (next place.0 - next place.0) + j ≡ j = omega arith in ap (slice_get place.0.sets) same)) (k, on.0, refl, refl) in (after.0, after.2))) (λ _. (k, refl))
