-- What holds of a replica with its mails, and is kept by the parts of a row, is kept by the row.
use Rattle.std.specs.Prelude.{is_some}
use Rattle.std.specs.List.{list_any}
use Rattle.std.proofs.Common.{ℕ, ◌+◌, ◌&&◌, ◌||◌, not, nat_le, nat_lt, Bool, true, List, [], ◌∷◌, filter, Option, Some, None}
use Rattle.sc_node_table.specs.Values.{Ballot, Command, OrderResult, Mail, Learn, Must, Gap}
use Rattle.sc_words.specs.declared.paxos.answers.Must.TheVariants.{Value, Free as Open}
use Rattle.sc_base.specs.Definitions.{is_member}
use Rattle.sc_words.specs.paxos.PaxosDefinitions.{without_flight_at, entry_at, prepared, must}
use Rattle.sc_node_table.specs.NodeDefinitions.{from_backlog, from_acts, from_queues, found_by, is_act, is_idle, under_way, effect_reported, learnt_to, sent_others, order_reported, order_number, name_of, Found, found_for, offered, pumped_from, settled, may_offer, taken_at, last_slot, welcomed, slot_lost, landed, executed_one, next_child, next_ready, ending, executed_ready, all_ready, executed, install_to, welcomed_all, pumped, put_back, ReplicaState, Place, Executed, childless, members, next, flying, taught, most_taught, ask_answered, ask_row, same_command, without_slot, promise_to, promised}
use Rattle.sc_law_walks.specs.WalkDefinitions.{IfThere}
use Rattle.sc_law_walks.proofs.Ways.{either_way}

-- a place with nothing in flight or ready at a slot
abbrev pub cleared : ℕ → Place → Place
cleared slot (r, mails) = (record r { leader = without_flight_at slot r.leader; ready = without_slot r.ready slot }, mails)

module _ (F : Place → Type 0) where
  -- what holds of a replica with its mail and the children that are made
  abbrev FAfter : Executed → Type 0
  FAfter step = F step.0

  -- those that an entry added are welcomed
  pub welcomed_place : ((nodes : List ℕ) (place : Place) → F place → F (welcomed_all nodes place)) → (counted : Bool) (nodes : List ℕ) (place : Place) → F place → F (welcomed counted nodes place)
  unfolding welcomed
  welcomed_place welcomes counted nodes (r, mails) f =
      either_way F counted (welcomed_all (filter (λ node. not (is_member nodes node)) (members r)) (r, mails)) (r, mails) (welcomes (filter (λ node. not (is_member nodes node)) (members r)) (r, mails) f) f

  -- a prepare is answered by the executed state, or by the acceptor
  pub promised_place : (from : ℕ) (ballot : Ballot) (from_slot : ℕ) (place : Place) → F (install_to from place) → F (promise_to from ballot (prepared ballot from_slot place.0.acceptor) place) → F (promised from ballot from_slot place)
  unfolding promised
  promised_place from ballot from_slot (r, mails) install promise =
      either_way F (nat_le from_slot r.acceptor.floor) (install_to from (r, mails)) (promise_to from ballot (prepared ballot from_slot r.acceptor) (r, mails)) install promise

  -- who asks is taught, or sent the executed state
  answered_by : (o : Option Command) (from slot : ℕ) (place : Place) → F (install_to from place) → F (place.0, taught most_taught place.0 from slot place.1) → F (ask_answered o from slot place)
  answered_by None from slot place install teach = install
  answered_by (Some command) from slot (r, mails) install teach = teach

  pub asked_place : (from slot : ℕ) (place : Place) → F place → F (install_to from place) → F (place.0, taught most_taught place.0 from slot place.1) → F (ask_row from slot place)
  unfolding ask_row
  asked_place from slot (r, mails) f install teach =
      either_way F (nat_lt slot (next r)) (ask_answered (entry_at slot r.log) from slot (r, mails)) (r, mails) (answered_by (entry_at slot r.log) from slot (r, mails) install teach) f

  -- what an entry does to an order is reported, and who was a member before it learns it
  pub reported_place : ((number : ℕ) (result : OrderResult) (r : ReplicaState) (mails : List Mail) → F (r, mails) → F (r, order_reported r.me number result mails)) → (o : Option OrderResult) (command : Command) (place : Place) → F place → F (effect_reported o command place)
  unfolding effect_reported
  reported_place reports None command place f = f
  reported_place reports (Some result) command (r, mails) f = reports (order_number command) result r mails f

  pub learnt_place : (counted : Bool) (nodes : List ℕ) (slot : ℕ) (command : Command) (place : Place) → F place → F (place.0, sent_others place.0.me nodes (Learn (name_of place.0) slot command) place.1) → F (learnt_to counted nodes slot command place)
  unfolding learnt_to
  learnt_place counted nodes slot command (r, mails) f teach = either_way F counted (r, sent_others r.me nodes (Learn (name_of r) slot command) mails) (r, mails) teach f

  -- ---- the pump

  -- it holds with what was found, offered at its slot
  abbrev pub Offers : ℕ → List ℕ → Found → Type 0
  Offers slot set found = IfThere (λ command. F (offered slot set command found.1)) (F found.1) found.0

  module _ (finds : (slot : ℕ) (set : List ℕ) (place : Place) → F place → Offers slot set (found_for slot place)) where
    pumps_on : (slot : ℕ) (set : List ℕ) (sets : List (List ℕ)) (found : Found) → Offers slot set found → ((place : Place) → F place → F (pumped_from (slot + 1) sets place))
        → F (elim (found.0) [ None ↦ found.1 | Some command ↦ pumped_from (slot + 1) sets (offered slot set command found.1) ])
    pumps_on slot set sets (None, place) f more = f
    pumps_on slot set sets (Some command, place) f more = more (offered slot set command place) f

    pumps_from : (slot : ℕ) (sets : List (List ℕ)) (place : Place) → F place → F (pumped_from slot sets place)
    unfolding pumped_from
    pumps_from slot [] place f = f
    pumps_from slot (set ∷ sets) place f =
        either_way F (is_some (taken_at place.0 slot)) _ _ (pumps_from (slot + 1) sets place f)
        (either_way F (may_offer place.0 set) _ _ (pumps_on slot set sets (found_for slot place) (finds slot set place f) (λ p g. pumps_from (slot + 1) sets p g)) f)

    pub pumped_place : (place : Place) → F place → F (pumped place)
    unfolding pumped
    pumped_place place f = either_way F (settled place.0 && nat_le (next place.0) last_slot) (pumped_from (next place.0) place.0.sets place) place (pumps_from (next place.0) place.0.sets place f) f

  -- .. where what is queued, what is sent and what is in flight are nothing to it
  module _ (queues : (r : ReplicaState) (mails more : List Mail) (acts backlog : List Command) → F (r, mails) → F (record r { acts = acts; backlog = backlog }, more)) where
    abbrev FFound : Found → Type 0
    FFound found = F found.1

    calls_found : (place : Place) → F place → FFound (from_backlog place)
    unfolding from_backlog
    calls_found (r, mails) f = queues r mails _ r.acts _ f

    acts_found : (acts : List Command) (place : Place) → F place → FFound (from_acts acts place)
    acts_found [] place f = calls_found place f
    acts_found (act ∷ acts) (r, mails) f = either_way FFound (is_idle r) (Some act, (record r { acts = acts }, mails)) (None, (r, mails)) (queues r mails mails acts r.backlog f) f

    queues_found : (place : Place) → F place → FFound (from_queues place)
    unfolding from_queues
    queues_found (r, mails) f = either_way FFound (list_any is_act (under_way r)) (None, (r, mails)) (from_acts r.acts (r, mails)) f (acts_found r.acts (r, mails) f)

    must_found : (what : Must Command) (place : Place) → F place → FFound (found_by what place)
    must_found (Value command) place f = f
    must_found Gap place f = f
    must_found Open place f = queues_found place f

    slot_found : (slot : ℕ) (place : Place) → F place → FFound (found_for slot place)
    unfolding found_for
    slot_found slot (r, mails) f = must_found (must slot r.leader) (r, mails) f

    module _ (offers : (slot : ℕ) (set : List ℕ) (command : Command) (place : Place) → F place → F (offered slot set command place)) where
      found_offered : (slot : ℕ) (set : List ℕ) (found : Found) → FFound found → Offers slot set found
      found_offered slot set (None, place) f = f
      found_offered slot set (Some command, place) f = offers slot set command place f

      pub pumped_freely : (place : Place) → F place → F (pumped place)
      pumped_freely place f = pumped_place (λ slot set p g. found_offered slot set (found_for slot p) (slot_found slot p g)) place f

  -- ---- a slot that is decided: O holds of what was under way there, if anything was

  module _ (O : Option Command → Type 0) (back : (command : Command) (place : Place) → O (Some command) → F place → F (put_back command place.0, place.1)) where
    lost_by : (counted : Bool) (command : Command) (o : Option Command) (place : Place) → O o → F place → F (slot_lost counted command o place.0, place.1)
    lost_by counted command None place k f = f
    lost_by counted command (Some other) (r, mails) k f =
        either_way (λ (x : ReplicaState). F (x, mails)) (counted || same_command other command) r (put_back other r) f (back other (r, mails) k f)

    -- what was under way there goes back, if it lost the slot
    pub landed_place : (counted : Bool) (slot : ℕ) (command : Command) (place : Place) → O (flying place.0 slot) → F (cleared slot place) → F (landed counted slot command place)
    unfolding landed
    landed_place counted slot command (r, mails) k f = lost_by counted command (flying r slot) (cleared slot (r, mails)) k f

  -- ---- an execution: O holds of what is ready next, if anything is

  module _ (O : Option Command → Type 0) (ready : (place : Place) → F place → O (next_ready place.0)) (one : (command : Command) (place : Place) → O (Some command) → F place → F (executed_one true command place))
      (pumps : (place : Place) → F place → F (pumped place)) where
    ready_by : (es : List (ℕ × Command)) (place : Place) (o : Option Command) → O o → F place → ((p : Place) → F p → F (executed_ready es p).0)
        → FAfter (elim o [ None ↦ childless place | Some command ↦ ending (next_child command place.0) (executed_ready es (executed_one true command place)) ])
    ready_by es place None k f more = f
    ready_by es place (Some command) k f more = pumps (executed_ready es (executed_one true command place)).0 (more (executed_one true command place) (one command place k f))

    ready_places : (es : List (ℕ × Command)) (place : Place) → F place → F (executed_ready es place).0
    unfolding executed_ready
    ready_places [] place f = f
    ready_places (e ∷ es) place f = ready_by es place (next_ready place.0) (ready place f) f (λ p g. ready_places es p g)

    -- an entry, what was ready after it, and the pump
    pub executed_place : (counted : Bool) (command : Command) (place : Place) → F (executed_one counted command place) → F (executed counted command place).0
    unfolding executed
    executed_place counted command place f =
        let after : Place = executed_one counted command place in
        pumps (all_ready after).0 (ready_places after.0.ready after f)
