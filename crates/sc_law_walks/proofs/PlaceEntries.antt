-- What holds of a replica with its mails is kept by an entry, with all that is told of it, where each part of the entry keeps it.
use Rattle.std.proofs.Common.{◌≡◌, ℕ, ◌-◌, Bool, true, false, cond, List, [], ◌∷◌, ◌++◌, length, filter, not, Option, Some, None, refl, sym, ◌∙◌, ap, subst}
use Rattle.std.specs.Option.{option_map}
use Rattle.std.proofs.lemmas.Bool.{cond_both}
use Rattle.sc_base.specs.Definitions.{is_member}
use Rattle.sc_node_table.specs.Values.{Op, Command, Call, Effect, OrderResult, AnswerBody, Mail, Prepare, Learn, Install, Flight}
use Rattle.sc_node_table.specs.declared.Before.{Before as Gone}
use Rattle.sc_group_table.specs.machine.MachineDefinitions.{Group, base_of, applied}
use Rattle.sc_words.specs.paxos.PaxosDefinitions.{flight_at, without_flight, without_flight_at}
use Rattle.sc_node_table.specs.NodeDefinitions.{slots_ahead, rest_of, without_slot, entered, answer_of, answered_or_put_back, order_result, effect_reported, announced, learnt_to, welcomed, install_to, asked_to_promise, welcomed_all, landed, sent, order_number, put_back, ReplicaState, Place, name_of, members, next, flying, forgotten, before_of, spoken}
use Rattle.sc_law_walks.specs.WalkDefinitions.{IsKept}
use Rattle.sc_law_walks.proofs.Ways.{either_way}
use Rattle.sc_law_walks.proofs.Places.{landed_place}
use Rattle.sc_law_walks.proofs.Queues.{turned_sets, back_kept, back_runs}
use Rattle.sc_law_walks.proofs.PlaceWalks.{Talk, parties, grows, entered_place}
use Rattle.sc_law_walks.proofs.Talks.{others_sent, client_reported, desk_reported, spoken_said}

-- That each part of an entry keeps P, where the commands at slots are as Entry says, and what goes back to a queue, from a flight or as a request, is as Back says.
pub record EntryParts (me : ℕ) (P : Place → Type 0) (Entry : ℕ → Command → Type 0) (Back : Command → Type 0) : Type 0 where
  pub entered : (command : Command) (r : ReplicaState) (mails : List Mail) → IsKept me r → Entry (next r) command → P (r, mails) → P (entered command r, mails)
  pub flown : (slot : ℕ) (command : Command) (r : ReplicaState) (mails : List Mail) → flying r slot ≡ Some command → P (r, mails) → Back command
  pub asked : (client seq : ℕ) (op : Op) → Back (Call client seq op)
  pub back : (command : Command) (r : ReplicaState) (mails : List Mail) → r.running ≡ true → Back command → P (r, mails) → P (put_back command r, mails)
  pub landed : (slot : ℕ) (r : ReplicaState) (mails : List Mail) → P (r, mails) → P (record r { leader = without_flight_at slot r.leader; ready = without_slot r.ready slot }, mails)
  pub talks : (r : ReplicaState) → r.me ≡ me → Talk r.me (λ mails. P (r, mails))
  pub teaches : (to slot : ℕ) (command : Command) (r : ReplicaState) (mails : List Mail) → r.me ≡ me → Entry slot command → P (r, mails) → P (r, sent r.me to (Learn (name_of r) slot command) mails)
  pub installs : (to : ℕ) (r : ReplicaState) (mails : List Mail) → r.me ≡ me → P (r, mails) → P (r, sent r.me to (Install (name_of r) (next r - 1) (base_of r.group) r.sets) mails)
  pub repolls : (to : ℕ) (r : ReplicaState) (mails : List Mail) → r.me ≡ me → r.running ≡ true → P (r, mails) → P (r, sent r.me to (Prepare (name_of r) r.leader.ballot (next r)) mails)

module _ (me : ℕ) (P : Place → Type 0) (Entry : ℕ → Command → Type 0) (Back : Command → Type 0) (p : EntryParts me P Entry Back) (b : Bool) where
  -- P holds of a replica as it is kept, where the replica runs as the flag says
  abbrev pub At : Place → Type 0
  At place = IsKept me place.0 × P place × (place.0.running ≡ b)

  state_at : (node : ℕ) (place : Place) → At place → At (install_to node place)
  unfolding install_to
  state_at node (r, mails) k = (k.0, p.installs node r mails k.0.0 k.1, k.2)

  asked_at : (node : ℕ) (place : Place) → b ≡ true → At place → At (asked_to_promise node place)
  asked_at node (r, mails) on k = either_way At r.leader.is_first (r, mails) (r, sent r.me node (Prepare (name_of r) r.leader.ballot (next r)) mails) k (k.0, p.repolls node r mails k.0.0 (k.2 ∙ on) k.1, k.2)

  welcomed_at : (nodes : List ℕ) (place : Place) → b ≡ true → At place → At (welcomed_all nodes place)
  unfolding welcomed_all
  welcomed_at [] place on k = k
  welcomed_at (node ∷ nodes) place on k = welcomed_at nodes (asked_to_promise node (install_to node place)) on (asked_at node (install_to node place) on (state_at node place k))

  -- only a leader welcomes
  welcomes_at : (counted : Bool) (nodes : List ℕ) (place : Place) → (counted ≡ true → b ≡ true) → At place → At (welcomed counted nodes place)
  unfolding welcomed
  welcomes_at counted nodes (r, mails) on k =
      let added : List ℕ = filter (λ node. not (is_member nodes node)) (members r) in
      cond_both counted (welcomed_all added (r, mails)) (r, mails) At (λ t. welcomed_at added (r, mails) (on t) k) (λ _. k)

  entered_at : (command : Command) (r : ReplicaState) (mails : List Mail) → Entry (next r) command → At (r, mails) → At (entered command r, mails)
  unfolding entered forgotten
  entered_at command r mails low k =
      let base = k.0 in
      let entered_so : P (entered command r, mails) = p.entered command r mails base low k.1 in
      let after : Group = (applied r.group command).0 in
      let longer : length (rest_of r.sets ++ after.core.members ∷ []) ≡ slots_ahead = turned_sets r.sets after.core.members base.1 in
      ((base.0, longer, base.2), entered_so, k.2)

  back_at : (command : Command) (place : Place) → b ≡ true → Back command → At place → At (put_back command place.0, place.1)
  back_at command (r, mails) on good k = (back_kept me command r (k.2 ∙ on) k.0, p.back command r mails (k.2 ∙ on) good k.1, back_runs command r ∙ k.2)

  call_at : (answer : Option AnswerBody) (command : Command) (place : Place) → b ≡ true → At place → At (answered_or_put_back answer command place)
  unfolding answered_or_put_back
  call_at (Some answer) (Call client seq op) (r, mails) on k = (k.0, client_reported r.me (λ ms. P (r, ms)) (parties r.me (λ ms. P (r, ms)) (p.talks r k.0.0)) client (name_of r) seq answer mails k.1, k.2)
  call_at None (Call client seq op) place on k = back_at (Call client seq op) place on (p.asked client seq op) k
  call_at (Some answer) _ place on k = k
  call_at None _ place on k = k

  effect_at : (result : Option OrderResult) (command : Command) (place : Place) → At place → At (effect_reported result command place)
  unfolding effect_reported
  effect_at None command place k = k
  effect_at (Some result) command (r, mails) k = (k.0, desk_reported r.me (λ ms. P (r, ms)) (p.talks r k.0.0) (order_number command) result mails k.1, k.2)

  announced_at : (counted : Bool) (effect : Effect) (command : Command) (place : Place) → (counted ≡ true → b ≡ true) → At place → At (announced counted effect command place)
  unfolding announced
  announced_at counted effect command place on k =
      effect_at (order_result command effect) command (cond counted (answered_or_put_back (answer_of effect) command place) place)
      (cond_both counted (answered_or_put_back (answer_of effect) command place) place At (λ t. call_at (answer_of effect) command place (on t) k) (λ _. k))

  spoken_at : (counted : Bool) (before : Gone) (effect : Effect) (command : Command) (place : Place) → At place → At (spoken counted before effect command place)
  unfolding spoken
  spoken_at counted before effect command (r, mails) k = (k.0, spoken_said r.me (λ ms. P (r, ms)) (p.talks r k.0.0) counted r.group before effect command mails k.1, k.2)

  learnt_at : (counted : Bool) (nodes : List ℕ) (slot : ℕ) (command : Command) (place : Place) → Entry slot command → At place → At (learnt_to counted nodes slot command place)
  unfolding learnt_to
  learnt_at counted nodes slot command (r, mails) low k =
      either_way At counted (r, _) (r, mails) (k.0, others_sent r.me (λ ms. P (r, ms)) (Learn (name_of r) slot command) (λ to ms q. p.teaches to slot command r ms k.0.0 low q) nodes mails k.1, k.2) k

  -- what lost its slot goes back, where it runs
  abbrev Flies : Option Command → Type 0
  Flies None = Unit {0}
  Flies (Some command) = (b ≡ true) × Back command

  landed_at : (counted : Bool) (slot : ℕ) (command : Command) (place : Place) → Flies (flying place.0 slot) → At place → At (landed counted slot command place)
  landed_at counted slot command place flies k =
      let base = k.0 in
      landed_place At Flies (λ other q o m. back_at other q o.0 o.1 m) counted slot command place flies
      ((base.0, base.1, (λ off. (let o = base.2.0 off in (ap (λ (fs : List (Flight Command)). without_flight slot fs) o.0, o.1, o.2)), base.2.1, base.2.2)), p.landed slot place.0 place.1 k.1, k.2)

module _ (me : ℕ) (P : Place → Type 0) (Entry : ℕ → Command → Type 0) (Back : Command → Type 0) (p : EntryParts me P Entry Back) where
  flies_at : (b : Bool) (slot : ℕ) (place : Place) → At me P Entry Back p b place → Flies me P Entry Back p b (flying place.0 slot)
  flies_at true slot place k = by (flying place.0 slot) refl
    where
      by : (o : Option Command) → flying place.0 slot ≡ o → Flies me P Entry Back p true o
      by None e = tt
      by (Some command) e = (refl, p.flown slot command place.0 place.1 e k.1)
  flies_at false slot place k = subst (λ (fs : List (Flight Command)). Flies me P Entry Back p false (option_map (λ flight. flight.value) (flight_at slot fs))) (sym (k.0.2.0 k.2).0) tt

  -- the whole entry
  pub entry_kept : (counted : Bool) (command : Command) (r : ReplicaState) (mails : List Mail) → (counted ≡ true → r.running ≡ true) → Entry (next r) command → IsKept me r → P (r, mails) → At me P Entry Back p r.running (entered_place counted command (r, mails))
  entry_kept counted command r mails on low kept k =
      let b : Bool = r.running in
      let effect : Effect = (applied r.group command).1 in
      let place0 : Place = (entered command r, mails) in
      let place1 : Place = announced counted effect command place0 in
      let place2 : Place = spoken counted (before_of r.group.core) effect command place1 in
      let place3 : Place = learnt_to counted (members r) (next r) command place2 in
      let place4 : Place = welcomed counted (members r) place3 in
      let k1 = announced_at me P Entry Back p b counted effect command place0 on (entered_at me P Entry Back p b command r mails low (kept, k, refl)) in
      let k2 = spoken_at me P Entry Back p b counted (before_of r.group.core) effect command place1 k1 in
      let k3 = learnt_at me P Entry Back p b counted (members r) (next r) command place2 low k2 in
      let k4 = welcomes_at me P Entry Back p b counted (members r) place3 on k3 in
      landed_at me P Entry Back p b counted (next r) command place4 (flies_at b (next r) place4 k4) k4

-- whatever the entry is, the replica stays as it is kept
pub entry_stands : (me : ℕ) (counted : Bool) (command : Command) (r : ReplicaState) (mails : List Mail) → (counted ≡ true → r.running ≡ true) → IsKept me r → IsKept me (entered_place counted command (r, mails)).0
entry_stands me counted command r mails on kept = (entry_kept me (λ place. Unit {0}) (λ slot c. Unit {0}) (λ c. Unit {0}) (record {
  entered = λ c s ms stays e k. tt;
  flown = λ slot c s ms e k. tt;
  asked = λ client seq op. tt;
  back = λ c s ms runs good k. tt;
  landed = λ slot s ms k. tt;
  talks = λ s same. grows s.me (λ ms. Unit {0}) (λ ms mail k. tt);
  teaches = λ to slot c s ms same e k. tt;
  installs = λ to s ms same k. tt;
  repolls = λ to s ms same runs k. tt;
}) counted command r mails on tt kept tt).0
