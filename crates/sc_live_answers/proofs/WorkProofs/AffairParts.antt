-- What an order makes of a replica is kept while it offers, stops, and executes an entry.
use Rattle.std.proofs.Common.{◌≡◌, ◌⊎◌, ℕ, ◌+◌, ◌-◌, ◌^◌, ◌&&◌, not, eqb, Bool, true, false, cond, List, [], ◌∷◌, ◌++◌, Option, Some, None, inl, inr, refl, sym, ◌∙◌, ap, subst}
use Rattle.std.specs.Prelude.{is_some}
use Rattle.std.specs.Option.{option_map}
use Rattle.std.specs.List.{filter, list_any}
use Rattle.sc_base.specs.Definitions.{Each, is_member}
use Rattle.sc_node_table.specs.Values.{Draw, Command, Call, Base, Effect, OrderResult, AnswerBody, Mail, Prepare, Accept, Learn, Install, Must, Flight, Report}
use Rattle.sc_mail.specs.declared.bodies.AnswerBody.TheVariants as Answers
use Rattle.sc_law_entries.proofs.HistoryProofs.HistoryLemmas.{applied_same}
use Rattle.sc_group_table.specs.machine.MachineDefinitions.{Group, base_of, applied}
use Rattle.sc_law_entries.specs.names.NameDefinitions.{Opt}
use Rattle.sc_law_entries.proofs.NamesProofs.NameLemmas.{opt_find, opt_map, opt_either, opt_slot, slot_without, flight_without}
use Rattle.sc_paxos_law.proofs.Lemmas.{among-member}
use Rattle.sc_words.specs.declared.paxos.answers.Must.TheVariants.{Free as Open}
use Rattle.sc_words.specs.paxos.PaxosDefinitions.{LeaderState, must, must_without, flight_at, without_flight_at, names_above, chosen_value}
use Rattle.sc_words.proofs.PaxosProofs.PaxosLemmas.{Each-append}
use Rattle.sc_words.proofs.PaxosProofs.ListLemmas.{Each-from as each_among}
use Rattle.sc_node_table.specs.NodeDefinitions.{ended, stopped, entered, answer_of, answered_or_put_back, order_result, effect_reported, announced, learnt_to, welcomed, slot_lost, landed, install_to, asked_to_promise, welcomed_all, sent, answered_all, sent_others, order_number, Found, is_act, next_queued, from_backlog, from_acts, from_queues, found_by, found_for, offered, pumped_from, ReplicaState, Place, name_of, next, members, flying, may_offer, listed, taken_at, taken_from, under_way, is_idle, open_slots, forgotten, at_slot, without_slot, before_of, spoken}
use Rattle.sc_node_table.specs.declared.Before.{Before}
use Rattle.sc_law_walks.proofs.WalkLemmas.{entered_place, either_way}
use Rattle.sc_live_answers.proofs.WorkProofs.Affairs.{Affair, AreGood}
use Rattle.sc_live_answers.proofs.WorkProofs.WorkMail.{one_sent, all_sent, others_sent, desk_reported, all_answered, none_dismissed, spoken_said}

module _ (a : Affair) (g : Draw) where
  abbrev pub Does : Command → Type 0
  Does = a.Does g

  abbrev pub AllDo : List Command → Type 0
  AllDo = Each Does

  abbrev pub Fly : List (Flight Command) → Type 0
  Fly flights = Each (λ (flight : Flight Command). Does flight.value) flights

  abbrev pub Wait : List (ℕ × Command) → Type 0
  Wait ready = Each (λ (entry : ℕ × Command). Does entry.1) ready

  -- a replica of the group: no request waits, all that waits, is in flight or is ready stands there, and so is its state; and no promise that is counted had reports
  abbrev pub Held : ReplicaState → Type 0
  Held r = (name_of r ≡ g) × (r.backlog ≡ []) × AllDo r.acts × Fly r.leader.flights × Wait r.ready × a.Is g r.group.core × (r.running ≡ true → r.leader.reports ≡ [])

  -- a replica of the group with the mail that it sends
  abbrev pub Fine : Place → Type 0
  Fine place = Held place.0 × AreGood a place.1

  abbrev Cmd : Option Command → Type 0
  Cmd o = Opt Does o

  -- ---- what is under way

  flying_does : (r : ReplicaState) (slot : ℕ) → Fly r.leader.flights → Cmd (flying r slot)
  flying_does r slot k =
      opt_map (λ (flight : Flight Command). Does flight.value) Does (λ (flight : Flight Command). flight.value) (λ flight c. c) (flight_at slot r.leader.flights)
      (opt_find (λ (flight : Flight Command). Does flight.value) (λ (flight : Flight Command). eqb flight.slot slot) r.leader.flights k)

  taken_does : (r : ReplicaState) (slot : ℕ) → Held r → Cmd (taken_at r slot)
  taken_does r slot k = opt_either Does (flying r slot) (at_slot r.ready slot) (flying_does r slot k.3) (opt_slot Does r.ready slot k.4)

  listed_does : (o : Option Command) → Cmd o → AllDo (listed o)
  listed_does None c = tt
  listed_does (Some command) c = (c, tt)

  slots_do : (r : ReplicaState) (slots : List ℕ) → Held r → AllDo (taken_from r slots)
  slots_do r [] k = tt
  slots_do r (slot ∷ slots) k = Each-append Does (listed (taken_at r slot)) (taken_from r slots) (listed_does (taken_at r slot) (taken_does r slot k)) (slots_do r slots k)

  -- ---- one that stops

  pub ended_fine : (hint : Option ℕ) (answer : AnswerBody) (place : Place) → Fine place → Fine (ended hint answer place)
  unfolding ended
  ended_fine hint answer (r, mails) f = (
    (f.0.0, refl, tt, tt, tt, f.0.5, (λ on. refl)),
    none_dismissed a r.me (name_of r) hint answer r.backlog (answered_all r.me (name_of r) answer (under_way r) mails) f.0.1
        (all_answered a r.me g (name_of r) answer (under_way r) mails (slots_do r (open_slots r) f.0) f.1),
  )

  pub stopped_fine : (hint : Option ℕ) (place : Place) → Fine place → Fine (stopped hint place)
  stopped_fine hint place f = ended_fine hint (Answers.NotLeader hint) place f

  -- ---- the pump, of one that runs

  abbrev pub Pumps : Place → Type 0
  Pumps place = Fine place × (place.0.leader.reports ≡ [])

  abbrev Finds : Found → Type 0
  Finds found = Cmd found.0 × Pumps found.1

  calls_find : (r : ReplicaState) (mails : List Mail) → Pumps (r, mails) → Finds (from_backlog (r, mails))
  unfolding from_backlog next_queued
  calls_find r mails k =
      subst (λ (cs : List Command). (let found = next_queued r.me (is_idle r) r.group.core cs mails in Finds (found.0, (record r { backlog = found.1 }, found.2)))) (sym k.0.0.1)
      (tt, (((k.0.0.0, refl, k.0.0.2, k.0.0.3, k.0.0.4, k.0.0.5, k.0.0.6), k.0.1), k.1))

  acts_find : (acts : List Command) (r : ReplicaState) (mails : List Mail) → AllDo acts → Pumps (r, mails) → Finds (from_acts acts (r, mails))
  acts_find [] r mails c k = calls_find r mails k
  acts_find (act ∷ acts) r mails c k =
      either_way Finds (is_idle r) (Some act, (record r { acts = acts }, mails)) (None, (r, mails)) (c.0, (((k.0.0.0, k.0.0.1, c.1, k.0.0.3, k.0.0.4, k.0.0.5, k.0.0.6), k.0.1), k.1)) (tt, k)

  queues_find : (r : ReplicaState) (mails : List Mail) → Pumps (r, mails) → Finds (from_queues (r, mails))
  unfolding from_queues
  queues_find r mails k = either_way Finds (list_any is_act (under_way r)) (None, (r, mails)) (from_acts r.acts (r, mails)) (tt, k) (acts_find r.acts r mails k.0.0.2 k)

  -- nothing has to be proposed where nothing was reported
  pub must_open : (slot : ℕ) (leader : LeaderState Command) → leader.reports ≡ [] → must slot leader ≡ Open
  must_open slot leader e = ap (λ (reports : List (Report Command)). must_without (names_above slot reports) (chosen_value slot reports)) e

  slot_finds : (slot : ℕ) (place : Place) → Pumps place → Finds (found_for slot place)
  unfolding found_for
  slot_finds slot (r, mails) k = subst (λ (m : Must Command). Finds (found_by m (r, mails))) (sym (must_open slot r.leader k.1)) (queues_find r mails k)

  pub slot_offered : (slot : ℕ) (set : List ℕ) (command : Command) (place : Place) → Does command → Pumps place → Pumps (offered slot set command place)
  unfolding offered
  slot_offered slot set command (r, mails) c k = (
    (
      (k.0.0.0, k.0.0.1, k.0.0.2, Each-append (λ (flight : Flight Command). Does flight.value) r.leader.flights (record { slot = slot; value = command; voters = None } ∷ []) k.0.0.3 (c, tt), k.0.0.4, k.0.0.5, k.0.0.6),
      all_sent a r.me set (Accept (name_of r) r.leader.ballot slot command) mails tt k.0.1,
    ),
    k.1,
  )

  pump_by : (slot : ℕ) (set : List ℕ) (sets : List (List ℕ)) (found : Found) → Finds found → ((place : Place) → Pumps place → Pumps (pumped_from (slot + 1) sets place))
      → Pumps (elim (found.0) [ None ↦ found.1 | Some command ↦ pumped_from (slot + 1) sets (offered slot set command found.1) ])
  pump_by slot set sets (None, place) k more = k.1
  pump_by slot set sets (Some command, place) k more = more (offered slot set command place) (slot_offered slot set command place k.0 k.1)

  pub from_pumps : (slot : ℕ) (sets : List (List ℕ)) (place : Place) → Pumps place → Pumps (pumped_from slot sets place)
  unfolding pumped_from
  from_pumps slot [] place k = k
  from_pumps slot (set ∷ sets) place k =
      either_way Pumps (is_some (taken_at place.0 slot)) _ _ (from_pumps (slot + 1) sets place k)
      (either_way Pumps (may_offer place.0 set) _ _ (pump_by slot set sets (found_for slot place) (slot_finds slot place k) (λ p q. from_pumps (slot + 1) sets p q)) k)

  -- ---- an entry: a counted one, or one that is learnt where nothing is in flight

  abbrev Goes : Bool → Group → Place → Type 0
  Goes counted after place = Fine place × (counted ≡ false → place.0.leader.flights ≡ []) × (place.0.group ≡ after)

  module _ (counted : Bool) (after : Group) where
    asked_goes : (node : ℕ) (place : Place) → Goes counted after place → Goes counted after (asked_to_promise node place)
    asked_goes node (r, mails) k =
        either_way (Goes counted after) r.leader.is_first (r, mails) (r, sent r.me node (Prepare (name_of r) r.leader.ballot (next r)) mails) k
        ((k.0.0, one_sent a r.me node (Prepare (name_of r) r.leader.ballot (next r)) mails tt k.0.1), k.1, k.2)

    install_goes : (node : ℕ) (place : Place) → a.Parts → Goes counted after place → Goes counted after (install_to node place)
    unfolding install_to
    install_goes node (r, mails) p k =
        ((k.0.0, one_sent a r.me node (Install (name_of r) (next r - 1) (base_of r.group) r.sets) mails (p, subst (λ n. a.Is n r.group.core) (sym k.0.0.0) k.0.0.5) k.0.1), k.1, k.2)

    all_welcomed : (nodes : List ℕ) (place : Place) → a.Parts → Goes counted after place → Goes counted after (welcomed_all nodes place)
    unfolding welcomed_all
    all_welcomed [] place p k = k
    all_welcomed (node ∷ nodes) place p k = all_welcomed nodes (asked_to_promise node (install_to node place)) p (asked_goes node (install_to node place) (install_goes node place p k))

    none_welcomed : (nodes : List ℕ) (place : Place) → nodes ≡ [] → Goes counted after place → Goes counted after (welcomed_all nodes place)
    unfolding welcomed_all
    none_welcomed nodes place e k = subst (λ (ns : List ℕ). Goes counted after (welcomed_all ns place)) (sym e) k

    -- who is a member and was one already is not new
    none_new : (before nodes : List ℕ) → Each (λ node. is_member before node ≡ true) nodes → filter (λ node. not (is_member before node)) nodes ≡ []
    none_new before [] k = refl
    none_new before (node ∷ nodes) k =
        subst (λ b. cond (not b) (node ∷ filter (λ n. not (is_member before n)) nodes) (filter (λ n. not (is_member before n)) nodes) ≡ []) (sym k.0) (none_new before nodes k.1)

    welcomed_goes : (before : List ℕ) (place : Place) → a.Parts ⊎ ((node : ℕ) → is_member after.core.members node ≡ true → is_member before node ≡ true) → Goes counted after place → Goes counted after (welcomed counted before place)
    unfolding welcomed
    welcomed_goes before (r, mails) (inl p) k =
        either_way (Goes counted after) counted (welcomed_all (filter (λ node. not (is_member before node)) (members r)) (r, mails)) (r, mails) (all_welcomed (filter (λ node. not (is_member before node)) (members r)) (r, mails) p k) k
    welcomed_goes before (r, mails) (inr old) k =
        let same : members r ≡ after.core.members = ap (λ (x : Group). x.core.members) k.2 in
        let none : filter (λ node. not (is_member before node)) (members r) ≡ [] =
        none_new before (members r) (each_among (λ node. is_member before node ≡ true) (members r) (λ node fact. old node (subst (λ (ms : List ℕ). is_member ms node ≡ true) same (among-member (members r) node fact)))) in
        either_way (Goes counted after) counted (welcomed_all (filter (λ node. not (is_member before node)) (members r)) (r, mails)) (r, mails)
        (none_welcomed (filter (λ node. not (is_member before node)) (members r)) (r, mails) none k) k

    call_goes : (answer : Option AnswerBody) (command : Command) (place : Place) → Does command → Goes counted after place → Goes counted after (answered_or_put_back answer command place)
    unfolding answered_or_put_back
    call_goes (Some answer) (Call client seq op) (r, mails) d k = absurd (a.backlog g client seq op d)
    call_goes None (Call client seq op) (r, mails) d k = absurd (a.backlog g client seq op d)
    call_goes (Some answer) _ place d k = k
    call_goes None _ place d k = k

    effect_goes : (result : Option OrderResult) (command : Command) (place : Place) → Goes counted after place → Goes counted after (effect_reported result command place)
    unfolding effect_reported
    effect_goes None command place k = k
    effect_goes (Some result) command (r, mails) k = ((k.0.0, desk_reported a r.me (order_number command) result mails k.0.1), k.1, k.2)

    announced_goes : (effect : Effect) (command : Command) (place : Place) → Does command → Goes counted after place → Goes counted after (announced counted effect command place)
    unfolding announced
    announced_goes effect command place d k =
        effect_goes (order_result command effect) command (cond counted (answered_or_put_back (answer_of effect) command place) place)
        (either_way (Goes counted after) counted (answered_or_put_back (answer_of effect) command place) place (call_goes (answer_of effect) command place d k) k)

    spoken_goes : (before : Before) (effect : Effect) (command : Command) (place : Place) → Does command → Goes counted after place → Goes counted after (spoken counted before effect command place)
    unfolding spoken
    spoken_goes before effect command (r, mails) d k = ((k.0.0, spoken_said a r.me counted g r.group before effect command mails k.0.0.5 d k.0.1), k.1, k.2)

    learnt_goes : (nodes : List ℕ) (slot : ℕ) (command : Command) (place : Place) → Does command → Goes counted after place → Goes counted after (learnt_to counted nodes slot command place)
    unfolding learnt_to
    learnt_goes nodes slot command (r, mails) d k =
        either_way (Goes counted after) counted (r, sent_others r.me nodes (Learn (name_of r) slot command) mails) (r, mails)
        ((k.0.0, others_sent a r.me nodes (Learn (name_of r) slot command) mails (subst (λ n. a.Does n command) (sym k.0.0.0) d) k.0.1), k.1, k.2) k

  -- what is counted takes nothing back, and what is learnt does not where nothing is in flight
  over_held : (slot : ℕ) (r : ReplicaState) → Held r → Held (record r { leader = without_flight_at slot r.leader; ready = without_slot r.ready slot })
  over_held slot r k = (k.0, k.1, k.2, flight_without Does slot r.leader.flights k.3, slot_without Does r.ready slot k.4, k.5, k.6)

  lost_counted : (command : Command) (o : Option Command) (r : ReplicaState) → Held r → Held (slot_lost true command o r)
  lost_counted command None r k = k
  lost_counted command (Some other) r k = k

  lost_none : (counted : Bool) (command : Command) (o : Option Command) (r : ReplicaState) → o ≡ None → Held r → Held (slot_lost counted command o r)
  lost_none counted command o r e k = subst (λ (x : Option Command). Held (slot_lost counted command x r)) (sym e) k

  landed_fine : (counted : Bool) (slot : ℕ) (command : Command) (place : Place) → (counted ≡ false → place.0.leader.flights ≡ []) → Fine place → Fine (landed counted slot command place)
  unfolding landed
  landed_fine true slot command (r, mails) none f = (lost_counted command (flying r slot) (record r { leader = without_flight_at slot r.leader; ready = without_slot r.ready slot }) (over_held slot r f.0), f.1)
  landed_fine false slot command (r, mails) none f = (
    lost_none false command (flying r slot) (record r { leader = without_flight_at slot r.leader; ready = without_slot r.ready slot })
        (ap (λ (fs : List (Flight Command)). option_map (λ (flight : Flight Command). flight.value) (flight_at slot fs)) (none refl)) (over_held slot r f.0),
    f.1,
  )

  entered_goes : (counted : Bool) (command : Command) (r : ReplicaState) (mails : List Mail) → Does command → (counted ≡ false → r.leader.flights ≡ []) → Fine (r, mails) → Goes counted (applied r.group command).0 (entered command r, mails)
  unfolding entered forgotten
  entered_goes counted command r mails d none f =
      ((((applied_same r.group command).0 ∙ f.0.0, f.0.1, f.0.2, f.0.3, f.0.4, a.entered g r.group command f.0.5 d, f.0.6), f.1), none, refl)

  -- the whole entry, with its slot cleared
  pub entry_fine : (counted : Bool) (command : Command) (r : ReplicaState) (mails : List Mail) → Does command → (counted ≡ false → r.leader.flights ≡ []) → Fine (r, mails) → Fine (entered_place counted command (r, mails))
  entry_fine counted command r mails d none f =
      let after : Group = (applied r.group command).0 in
      let effect : Effect = (applied r.group command).1 in
      let place0 : Place = (entered command r, mails) in
      let place1 : Place = announced counted effect command place0 in
      let k1 : Goes counted after place1 = announced_goes counted after effect command place0 d (entered_goes counted command r mails d none f) in
      let place2 : Place = spoken counted (before_of r.group.core) effect command place1 in
      let k2 : Goes counted after place2 = spoken_goes counted after (before_of r.group.core) effect command place1 d k1 in
      let place3 : Place = learnt_to counted (members r) (next r) command place2 in
      let k3 : Goes counted after place3 = learnt_goes counted after (members r) (next r) command place2 d k2 in
      let place4 : Place = welcomed counted (members r) place3 in
      let k4 : Goes counted after place4 = welcomed_goes counted after (members r) place3 (a.adds g r.group command f.0.5 d) k3 in
      landed_fine counted (next r) command place4 k4.1 k4.0

  abbrev pub Kids : List Base → Type 0
  Kids made = Each (a.Creates g) made
