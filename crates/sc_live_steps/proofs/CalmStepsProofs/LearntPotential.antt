-- A replica that learns an entry raises nothing, also where it is elected by it.
use Rattle.std.proofs.Common.{◌≡◌, ℕ, zero, suc, ◌+◌, ◌-◌, ◌^◌, ◌≤◌, eqb, Bool, true, false, cond, List, [], length, sum_by, Option, Some, None, refl, sym, ◌∙◌, ap, subst, arith}
use Rattle.std.specs.Option.{option_map}
use Rattle.std.proofs.lemmas.List.Sums.{length-filter, count_by-le-length}
use Rattle.sc_base.specs.Definitions.{most_nodes}
use Rattle.sc_node_table.specs.Values.{Command, Effect, OrderResult, Mail, Prepare, Told, Flight}
use Rattle.sc_group_table.specs.policy.PolicyDefinitions.{is_reported}
use Rattle.sc_words.specs.paxos.PaxosDefinitions.{LeaderState, flight_at, without_flight_at}
use Rattle.sc_group_table.specs.machine.MachineDefinitions.{applied}
use Rattle.sc_node_table.specs.declared.Before.{Before}
use Rattle.sc_node_table.specs.NodeDefinitions.{is_in_some, nodes_to, open_nodes, elected, entered, order_result, effect_reported, announced, learnt_to, welcomed, slot_lost, landed, looked, executed_one, order_reported, result_sent, order_number, ReplicaState, Place, name_of, next, members, flying, forgotten, numbers_from, without_slot, before_of, begun_result, spoken_number, result_reported, begun_reported, spoken_mails, spoken}
use Rattle.sc_live_steps.proofs.ExecutionParts.{looks_from}
use Rattle.sc_live_steps.specs.calm.CalmDefinitions.{Ways, mail_owes, replica_owes, idle_owes, election, place_owes}
use Rattle.sc_live_steps.proofs.CalmStepsProofs.PotentialSums.{sent_owes, all_owe, without_flight_owes, without_slot_owes, idle_most as idle_low}
use Rattle.sc_live_steps.proofs.FollowingProofs.FollowerTables.{left_same as left_learnt, learnt_same as learnt_learnt, welcomed_same as welcomed_learnt}
use Rattle.std.proofs.lemmas.List.Sums.{length-filter, count_by-le-length}
use Rattle.sc_law_walks.proofs.WalkLemmas.{either_way}
pub use Rattle.sc_law_walks.proofs.WalkLemmas.{entered_running, entered_ready}

-- ---- the nodes of an election

pub count_numbers : (from count : ℕ) → length (numbers_from from count) ≡ count
count_numbers from zero = refl
count_numbers from (suc count) = ap suc (count_numbers (from + 1) count)

open_few : (sets : List (List ℕ)) → length (open_nodes sets) ≤ 32
unfolding nodes_to
open_few sets =
    let counted = length-filter (λ node. is_in_some sets node) (numbers_from 1 most_nodes) in
    let short = count_by-le-length (λ node. is_in_some sets node) (numbers_from 1 most_nodes) in
    let all = count_numbers 1 most_nodes in
    omega (arith, counted, short, all)

module _ (ways : Ways) where
  -- ---- what is reported to the desk owes nothing

  pub desk_owes : (me number : ℕ) (result : OrderResult) (mails : List Mail) → sum_by (mail_owes ways) (order_reported me number result mails) ≡ sum_by (mail_owes ways) mails
  unfolding order_reported
  desk_owes me number result mails = by (is_reported number)
    where
      by : (b : Bool) → sum_by (mail_owes ways) (cond b (result_sent me number result mails) mails) ≡ sum_by (mail_owes ways) mails
      by true = let s = sent_owes ways me 0 (Told number result) mails in omega (arith, s)
      by false = refl

  pub effect_owes : (o : Option OrderResult) (command : Command) (r : ReplicaState) (mails : List Mail) →
      ((effect_reported o command (r, mails)).0 ≡ r) × (sum_by (mail_owes ways) (effect_reported o command (r, mails)).1 ≡ sum_by (mail_owes ways) mails)
  unfolding effect_reported
  effect_owes None command r mails = (refl, refl)
  effect_owes (Some result) command r mails = (refl, desk_owes r.me (order_number command) result mails)

  pub begun_owes : (me : ℕ) (before : Before) (effect : Effect) (command : Command) (mails : List Mail) → sum_by (mail_owes ways) (begun_reported me before effect command mails) ≡ sum_by (mail_owes ways) mails
  unfolding begun_reported
  begun_owes me before effect command mails = by (begun_result before.alone effect command)
    where
      by : (o : Option OrderResult) → sum_by (mail_owes ways) (result_reported me o (spoken_number before.order command) mails) ≡ sum_by (mail_owes ways) mails
      by None = refl
      by (Some result) = desk_owes me (spoken_number before.order command) result mails

  -- ---- the entry itself changes nothing that is owed

  pub entered_owes : (command : Command) (r : ReplicaState) → replica_owes ways.most (entered command r) ≡ replica_owes ways.most r
  unfolding entered forgotten
  entered_owes command r = refl

  pub entered_flights : (command : Command) (r : ReplicaState) → (entered command r).leader ≡ r.leader
  unfolding entered forgotten
  entered_flights command r = refl

  -- ---- an election

  -- one that begins to run owes what its group owed for it
  elected_owes : (r : ReplicaState) (mails : List Mail) → r.running ≡ false → place_owes ways (elected (r, mails)) ≤ replica_owes ways.most r + election + sum_by (mail_owes ways) mails
  unfolding elected
  elected_owes r mails stopped =
      let low = idle_low r.running r.group.core.gone in
      let all = all_owe ways r.me (Prepare (name_of r) (record { round = r.top.round + 1; node = r.me }) (next r)) 2 (λ node. omega arith) (open_nodes r.sets) mails in
      let few = open_few r.sets in
      either_way (λ (p : Place). place_owes ways p ≤ replica_owes ways.most r + election + sum_by (mail_owes ways) mails) (eqb r.top.round (2 ^ 32 - 1)) (r, mails) _ (omega (arith, low)) (omega (arith, all, few))

  -- one that does not run looks for a leader
  pub looked_owes : (r : ReplicaState) (mails : List Mail) → r.running ≡ false → place_owes ways (looked (r, mails)) ≤ replica_owes ways.most r + election + sum_by (mail_owes ways) mails
  looked_owes r mails stopped =
      looks_from (λ (p : Place). place_owes ways p ≤ replica_owes ways.most r + election + sum_by (mail_owes ways) mails) r mails
      (λ hint. (let low = idle_low r.running r.group.core.gone in omega (arith, low))) (elected_owes (record r { hint = Some r.me }) mails stopped)

  -- ---- the parts of a learnt entry

  announced_learnt : (effect : Effect) (command : Command) (r : ReplicaState) (mails : List Mail) →
      ((announced false effect command (r, mails)).0 ≡ r) × (sum_by (mail_owes ways) (announced false effect command (r, mails)).1 ≡ sum_by (mail_owes ways) mails)
  unfolding announced
  announced_learnt effect command r mails = effect_owes (order_result command effect) command r mails

  spoken_learnt : (before : Before) (effect : Effect) (command : Command) (r : ReplicaState) (mails : List Mail) →
      ((spoken false before effect command (r, mails)).0 ≡ r) × (sum_by (mail_owes ways) (spoken false before effect command (r, mails)).1 ≡ sum_by (mail_owes ways) mails)
  unfolding spoken spoken_mails
  spoken_learnt before effect command r mails = (refl, begun_owes r.me before effect command mails)

  -- where nothing is in flight
  landed_learnt : (slot : ℕ) (command : Command) (r : ReplicaState) (mails : List Mail) → r.leader.flights ≡ [] →
      ((landed false slot command (r, mails)).0.running ≡ r.running) × (replica_owes ways.most (landed false slot command (r, mails)).0 ≤ replica_owes ways.most r) × ((landed false slot command (r, mails)).1 ≡ mails) × ((landed false slot command (r, mails)).0.sets ≡ r.sets)
  unfolding landed
  landed_learnt slot command r mails none = by (flying r slot) flown
    where
      flown : flying r slot ≡ None
      flown = ap (λ (fs : List (Flight Command)). option_map (λ (flight : Flight Command). flight.value) (flight_at slot fs)) none

      over : ReplicaState
      over = record r { leader = without_flight_at slot r.leader; ready = without_slot r.ready slot }

      by : (o : Option Command) → o ≡ None → ((slot_lost false command o over).running ≡ r.running) × (replica_owes ways.most (slot_lost false command o over) ≤ replica_owes ways.most r) × (mails ≡ mails) × ((slot_lost false command o over).sets ≡ r.sets)
      by (Some other) e = cc
      by None e =
          let a = without_flight_owes ways.most slot r.leader.flights in
          let b = without_slot_owes ways.most slot r.ready in
          (refl, omega (arith, a, b), refl, refl)

  landed_group : (slot : ℕ) (command : Command) (r : ReplicaState) (mails : List Mail) → r.leader.flights ≡ [] → (landed false slot command (r, mails)).0.group ≡ r.group
  unfolding landed
  landed_group slot command r mails none = by (flying r slot) flown
    where
      flown : flying r slot ≡ None
      flown = ap (λ (fs : List (Flight Command)). option_map (λ (flight : Flight Command). flight.value) (flight_at slot fs)) none

      by : (o : Option Command) → o ≡ None → (slot_lost false command o (record r { leader = without_flight_at slot r.leader; ready = without_slot r.ready slot })).group ≡ r.group
      by (Some other) e = cc
      by None e = refl

  -- ---- the whole

  -- the place at which a replica that has learnt an entry looks for a leader
  pub record Learns (command : Command) (before : Place) (place : Place) : Type 0 where
    pub stopped : place.0.running ≡ false
    pub sets : place.0.sets ≡ (entered command before.0).sets
    pub owes : replica_owes ways.most place.0 ≤ replica_owes ways.most before.0
    pub sent : sum_by (mail_owes ways) place.1 ≡ sum_by (mail_owes ways) before.1
    pub group : place.0.group ≡ (entered command before.0).group

  -- what holds where it looks for one holds after the entry
  pub learnt_ends : (P : Place → Type 0) (command : Command) (before : Place) → before.0.running ≡ false → before.0.leader.flights ≡ [] → ((r : ReplicaState) (mails : List Mail) → Learns command before (r, mails) → P (looked (r, mails))) → P (executed_one false command before)
  unfolding executed_one
  learnt_ends P command (r, mails) stopped none then =
      let effect = (applied r.group command).1 in
      let r1 = entered command r in
      let place1 = announced false effect command (r1, mails) in
      let a = announced_learnt effect command r1 mails in
      let place2 = spoken false (before_of r.group.core) effect command place1 in
      let b = spoken_learnt (before_of r.group.core) effect command place1.0 place1.1 in
      let place3 = learnt_to false (members r) (next r) command place2 in
      let c : place3 ≡ place2 = learnt_learnt (members r) (next r) command place2.0 place2.1 in
      let place4 = welcomed false (members r) place3 in
      let d : place4 ≡ place3 = welcomed_learnt (members r) place3.0 place3.1 in
      let state : place4.0 ≡ r1 = ap (λ (p : Place). p.0) d ∙ (ap (λ (p : Place). p.0) c ∙ (b.0 ∙ a.0)) in
      let sent : sum_by (mail_owes ways) place4.1 ≡ sum_by (mail_owes ways) mails = ap (λ (p : Place). sum_by (mail_owes ways) p.1) d ∙ (ap (λ (p : Place). sum_by (mail_owes ways) p.1) c ∙ (b.1 ∙ a.1)) in
      let flights : place4.0.leader.flights ≡ [] = ap (λ (q : ReplicaState). q.leader.flights) state ∙ (ap (λ (l : LeaderState Command). l.flights) (entered_flights command r) ∙ none) in
      let e = landed_learnt (next r) command place4.0 place4.1 flights in
      let place5 = landed false (next r) command place4 in
      let running : place5.0.running ≡ false = e.0 ∙ (ap (λ (q : ReplicaState). q.running) state ∙ (entered_running command r ∙ stopped)) in
      let owes = ap (replica_owes ways.most) state ∙ entered_owes command r in
      let low : replica_owes ways.most place5.0 ≤ replica_owes ways.most r = (let le = e.1 in omega (arith, le, owes)) in
      let learns : Learns command (r, mails) (place5.0, place5.1) = record { stopped = running; sets = e.3 ∙ ap (λ (q : ReplicaState). q.sets) state; owes = low; sent = ap (sum_by (mail_owes ways)) e.2 ∙ sent; group = landed_group (next r) command place4.0 place4.1 flights ∙ ap (λ (q : ReplicaState). q.group) state } in
      subst (λ (p : Place). P (looked p)) (sym (left_learnt place5.0 place5.1 running)) (then place5.0 place5.1 learns)

  pub learnt_owes : (command : Command) (place : Place) → place.0.running ≡ false → place.0.group.core.gone ≡ None → place.0.leader.flights ≡ [] → place_owes ways (executed_one false command place) ≤ place_owes ways place
  learnt_owes command (r, mails) stopped stands none =
      learnt_ends (λ p. place_owes ways p ≤ place_owes ways (r, mails)) command (r, mails) stopped none
      (λ q more learns.
      let le = looked_owes q more learns.stopped in
      let low = learns.owes in
      let sent = learns.sent in
      let idle : idle_owes r.running r.group.core.gone ≡ election = ap (λ b. idle_owes b r.group.core.gone) stopped ∙ ap (idle_owes false) stands in
      omega (arith, le, low, sent, idle))
