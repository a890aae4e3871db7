-- An entry that the leader executes as counted raises nothing, where what it causes was owed.
use Rattle.std.proofs.Common.{◌≡◌, ℕ, ◌+◌, ◌-◌, ◌*◌, ◌≤◌, ◌||◌, not, eqb, Bool, true, false, true≢false, cond, List, [], ◌∷◌, length, sum_by, Option, Some, None, refl, sym, ◌∙◌, ap, arith}
use Rattle.std.specs.List.{filter}
use Rattle.sc_node_table.specs.Values.{Command, Route, Mail, MailBody, Learn, Prepare, Install}
use Rattle.sc_mail.specs.declared.bodies.AnswerBody.TheVariants as Says
use Rattle.sc_base.specs.Definitions.{is_member, least_of}
use Rattle.sc_group_table.specs.machine.MachineDefinitions.{Group, base_of}
use Rattle.sc_words.specs.paxos.PaxosDefinitions.{LeaderState, without_flight, without_flight_at}
use Rattle.sc_node_table.specs.NodeDefinitions.{ended, stopped, entered, learnt_to, welcomed, slot_lost, landed, left_gone, left, looked_for, looked, executed_one, install_to, asked_to_promise, welcomed_all, sent, sent_others, answered_all, dismissed_all, ReplicaState, Place, name_of, next, members, flying, forgotten, open_slots, under_way, at_slot, without_slot}
use Rattle.sc_live_steps.specs.calm.CalmDefinitions.{IsCounting, newcomers, said_place, Ways, offered_owes, body_owes, mail_owes, replica_owes, idle_owes, election, place_owes}
use Rattle.sc_live_steps.proofs.CalmStepsProofs.PotentialSums.{sent_owes, without_flight_owes, taken_slot_owes}
use Rattle.sc_live_steps.proofs.CalmStepsProofs.LearntPotential.{entered_owes, entered_running, entered_flights, entered_ready, looked_owes}
pub use Rattle.sc_law_walks.proofs.WalkLemmas.{entered_me}
pub use Rattle.sc_live_steps.proofs.PumpProofs.Pumping.{none_from as taken_none}

entered_calls : (command : Command) (r : ReplicaState) → (entered command r).backlog ≡ r.backlog
unfolding entered forgotten
entered_calls command r = refl

-- ---- a leader that stays a member of a group that stands goes on

pub left_stays : (r : ReplicaState) (mails : List Mail) → r.running ≡ true → r.group.core.gone ≡ None → is_member (members r) r.me ≡ true → left (r, mails) ≡ (r, mails)
unfolding left
left_stays r mails running stands mine =
    ap (λ c. cond c (left_gone r.group.core.gone (r, mails)) (r, mails)) running
    ∙ (ap (λ (g : Option Route). left_gone g (r, mails)) stands ∙ ap (λ c. cond c (r, mails) (stopped (Some (least_of (members r))) (r, mails))) mine)

pub looked_stays : (r : ReplicaState) (mails : List Mail) → r.running ≡ true → looked (r, mails) ≡ (r, mails)
unfolding looked
looked_stays r mails running = ap (λ c. cond c (r, mails) (looked_for r.group.core.gone (r, mails))) running

module _ (ways : Ways) where
  abbrev sum : List Mail → ℕ
  sum mails = sum_by (mail_owes ways) mails

  -- ---- the others learn it

  module _ (me : ℕ) (body : MailBody) (one : (node : ℕ) → body_owes ways node body ≤ 1) where
    others_most : (nodes : List ℕ) (mails : List Mail) → sum (sent_others me nodes body mails) ≤ sum mails + length nodes
    unfolding sent_others
    others_most [] mails = omega arith
    others_most (node ∷ nodes) mails = by (eqb node me) (others_most nodes mails) (others_most nodes (sent me node body mails))
      where
        by : (b : Bool) → sum (sent_others me nodes body mails) ≤ sum mails + length nodes → sum (sent_others me nodes body (sent me node body mails)) ≤ sum (sent me node body mails) + length nodes →
            sum (sent_others me nodes body (cond b mails (sent me node body mails))) ≤ sum mails + length (node ∷ nodes)
        by true stays more = omega (arith, stays)
        by false stays more = let s = sent_owes ways me node body mails in let o = one node in omega (arith, more, s, o)

    -- the sender is one of them
    others_owe : (nodes : List ℕ) (mails : List Mail) → is_member nodes me ≡ true → sum (sent_others me nodes body mails) + 1 ≤ sum mails + length nodes
    unfolding sent_others
    others_owe [] mails e = absurd (true≢false (sym e))
    others_owe (node ∷ nodes) mails e = by (eqb node me) e (others_most nodes mails) (λ m. others_owe nodes (sent me node body mails) m)
      where
        by : (b : Bool) → (b || is_member nodes me) ≡ true → sum (sent_others me nodes body mails) ≤ sum mails + length nodes →
            (is_member nodes me ≡ true → sum (sent_others me nodes body (sent me node body mails)) + 1 ≤ sum (sent me node body mails) + length nodes) →
            sum (sent_others me nodes body (cond b mails (sent me node body mails))) + 1 ≤ sum mails + length (node ∷ nodes)
        by true m stays more = omega (arith, stays)
        by false m stays more = let le = more m in let s = sent_owes ways me node body mails in let o = one node in omega (arith, le, s, o)

  -- ---- new members are welcomed

  welcomed_one : (node : ℕ) (r : ReplicaState) (mails : List Mail) → ((asked_to_promise node (install_to node (r, mails))).0 ≡ r) × (sum (asked_to_promise node (install_to node (r, mails))).1 ≤ sum mails + 3)
  unfolding install_to
  welcomed_one node r mails = by r.leader.is_first (sent_owes ways r.me node (Install (name_of r) (next r - 1) (base_of r.group) r.sets) mails)
      (sent_owes ways r.me node (Prepare (name_of r) r.leader.ballot (next r)) (sent r.me node (Install (name_of r) (next r - 1) (base_of r.group) r.sets) mails))
    where
      installed : List Mail
      installed = sent r.me node (Install (name_of r) (next r - 1) (base_of r.group) r.sets) mails

      asked : List Mail
      asked = sent r.me node (Prepare (name_of r) r.leader.ballot (next r)) installed

      by : (b : Bool) → sum installed ≡ sum mails + 1 → sum asked ≡ sum installed + 2 → ((cond {A = Place} b (r, installed) (r, asked)).0 ≡ r) × (sum (cond {A = Place} b (r, installed) (r, asked)).1 ≤ sum mails + 3)
      by true i a = (refl, omega (arith, i))
      by false i a = (refl, omega (arith, i, a))

  welcomed_owe : (nodes : List ℕ) (place : Place) → ((welcomed_all nodes place).0 ≡ place.0) × (sum (welcomed_all nodes place).1 ≤ sum place.1 + 3 * length nodes)
  unfolding welcomed_all
  welcomed_owe [] place = (refl, omega arith)
  welcomed_owe (node ∷ nodes) (r, mails) =
      let one = welcomed_one node r mails in
      let more = welcomed_owe nodes (asked_to_promise node (install_to node (r, mails))) in
      let a = more.1 in
      let b = one.1 in
      (more.0 ∙ one.0, omega (arith, a, b))

  -- ---- the parts of a counted entry

  learnt_counted : (before : List ℕ) (slot : ℕ) (command : Command) (r : ReplicaState) (mails : List Mail) → length before ≤ 9 → is_member before r.me ≡ true →
      ((learnt_to true before slot command (r, mails)).0 ≡ r) × (sum (learnt_to true before slot command (r, mails)).1 ≤ sum mails + 8)
  unfolding learnt_to
  learnt_counted before slot command r mails few mine =
      let le = others_owe r.me (Learn (name_of r) slot command) (λ node. omega arith) before mails mine in
      (refl, omega (arith, le, few))

  welcomed_counted : (before : List ℕ) (r : ReplicaState) (mails : List Mail) →
      ((welcomed true before (r, mails)).0 ≡ r) × (sum (welcomed true before (r, mails)).1 ≤ sum mails + 3 * length (filter (λ node. not (is_member before node)) (members r)))
  unfolding welcomed
  welcomed_counted before r mails = welcomed_owe (filter (λ node. not (is_member before node)) (members r)) (r, mails)

  landed_counted : (slot : ℕ) (command : Command) (r : ReplicaState) (mails : List Mail) → at_slot r.ready slot ≡ Some command →
      ((landed true slot command (r, mails)).0.running ≡ r.running) × ((landed true slot command (r, mails)).0.group ≡ r.group) × ((landed true slot command (r, mails)).0.me ≡ r.me)
      × (replica_owes ways.most (landed true slot command (r, mails)).0 + offered_owes ways.most command ≤ replica_owes ways.most r) × ((landed true slot command (r, mails)).1 ≡ mails)
      × ((landed true slot command (r, mails)).0.leader.flights ≡ without_flight slot r.leader.flights) × ((landed true slot command (r, mails)).0.ready ≡ without_slot r.ready slot) × ((landed true slot command (r, mails)).0.backlog ≡ r.backlog)
      × ((landed true slot command (r, mails)).0.sets ≡ r.sets) × ((landed true slot command (r, mails)).0.log ≡ r.log) × ((landed true slot command (r, mails)).0.leader.reports ≡ r.leader.reports)
  unfolding landed
  landed_counted slot command r mails ready = by (flying r slot)
    where
      over : ReplicaState
      over = record r { leader = without_flight_at slot r.leader; ready = without_slot r.ready slot }

      lost : (o : Option Command) → slot_lost true command o over ≡ over
      lost None = refl
      lost (Some other) = refl

      by : (o : Option Command) →
          ((slot_lost true command o over).running ≡ r.running) × ((slot_lost true command o over).group ≡ r.group) × ((slot_lost true command o over).me ≡ r.me)
          × (replica_owes ways.most (slot_lost true command o over) + offered_owes ways.most command ≤ replica_owes ways.most r) × (mails ≡ mails)
          × ((slot_lost true command o over).leader.flights ≡ without_flight slot r.leader.flights) × ((slot_lost true command o over).ready ≡ without_slot r.ready slot) × ((slot_lost true command o over).backlog ≡ r.backlog)
          × ((slot_lost true command o over).sets ≡ r.sets) × ((slot_lost true command o over).log ≡ r.log) × ((slot_lost true command o over).leader.reports ≡ r.leader.reports)
      by o =
          let same = lost o in
          let a = without_flight_owes ways.most slot r.leader.flights in
          let b = taken_slot_owes ways.most slot r.ready command ready in
          let s = ap (replica_owes ways.most) same in (
            ap (λ (q : ReplicaState). q.running) same,
            ap (λ (q : ReplicaState). q.group) same,
            ap (λ (q : ReplicaState). q.me) same,
            omega (arith, a, b, s),
            refl,
            ap (λ (q : ReplicaState). q.leader.flights) same,
            ap (λ (q : ReplicaState). q.ready) same,
            ap (λ (q : ReplicaState). q.backlog) same,
            ap (λ (q : ReplicaState). q.sets) same,
            ap (λ (q : ReplicaState). q.log) same,
            ap (λ (q : ReplicaState). q.leader.reports) same,
          )

  -- what is owed at its end
  at_end : (place : Place) (total : ℕ) → place.0.running ≡ true → place.0.group.core.gone ≡ None → is_member (members place.0) place.0.me ≡ true → replica_owes ways.most place.0 + sum place.1 ≤ total → place_owes ways (looked (left place)) ≤ total
  at_end (r, mails) total running stands mine le =
      let same = ap looked (left_stays r mails running stands mine) ∙ looked_stays r mails running in
      let owes = ap (place_owes ways) same in
      let idle : idle_owes r.running r.group.core.gone ≡ 0 = ap (λ b. idle_owes b r.group.core.gone) running in
      omega (arith, owes, idle, le)

  -- ---- the whole

  -- the place at which a leader that has counted an entry, and said so much, sees whether it goes on
  pub record Counts (command : Command) (said : ℕ) (before : Place) (place : Place) : Type 0 where
    pub running : place.0.running ≡ true
    pub me_is : place.0.me ≡ before.0.me
    pub group_is : place.0.group ≡ (entered command before.0).group
    pub owes : replica_owes ways.most place.0 + offered_owes ways.most command ≤ replica_owes ways.most before.0
    pub sent : sum place.1 ≤ sum before.1 + said + 8 + 3 * length (newcomers command before.0)
    pub flights : place.0.leader.flights ≡ without_flight (next before.0) before.0.leader.flights
    pub ready : place.0.ready ≡ without_slot before.0.ready (next before.0)
    pub backlog : place.0.backlog ≡ before.0.backlog
    pub sets : place.0.sets ≡ (entered command before.0).sets
    pub log : place.0.log ≡ (entered command before.0).log
    pub reports : place.0.leader.reports ≡ before.0.leader.reports

  -- what holds where it has seen that holds after the entry
  pub counted_ends : (P : Place → Type 0) (command : Command) (before : Place) (said : ℕ) → IsCounting command before.0 → (said_place command before).0 ≡ entered command before.0 → sum (said_place command before).1 ≤ sum before.1 + said
      → ((r : ReplicaState) (mails : List Mail) → Counts command said before (r, mails) → P (looked (left (r, mails)))) → P (executed_one true command before)
  unfolding executed_one
  counted_ends P command (r, mails) said is_counting state reported then =
      let place2 = said_place command (r, mails) in
      let me : place2.0.me ≡ r.me = ap (λ (q : ReplicaState). q.me) state ∙ entered_me command r in
      let a = learnt_counted (members r) (next r) command place2.0 place2.1 is_counting.few (ap (is_member (members r)) me ∙ is_counting.mine) in
      let place3 = learnt_to true (members r) (next r) command place2 in
      let b = welcomed_counted (members r) place3.0 place3.1 in
      let place4 = welcomed true (members r) place3 in
      let fact : place4.0 ≡ entered command r = b.0 ∙ (a.0 ∙ state) in
      let at : at_slot place4.0.ready (next r) ≡ Some command = ap (λ (q : ReplicaState). at_slot q.ready (next r)) fact ∙ (ap (λ (es : List (ℕ × Command)). at_slot es (next r)) (entered_ready command r) ∙ is_counting.ready) in
      let c = landed_counted (next r) command place4.0 place4.1 at in
      let place5 = landed true (next r) command place4 in
      let owes : replica_owes ways.most place4.0 ≡ replica_owes ways.most r = ap (replica_owes ways.most) fact ∙ entered_owes ways command r in
      let welcome : length (filter (λ node. not (is_member (members r) node)) (members place3.0)) ≡ length (newcomers command r) =
      ap (λ (q : ReplicaState). length (filter (λ node. not (is_member (members r) node)) (members q))) (a.0 ∙ state) in
      let counts : Counts command said (r, mails) (place5.0, place5.1) = record {
        running = c.0 ∙ (ap (λ (q : ReplicaState). q.running) fact ∙ (entered_running command r ∙ is_counting.running));
        me_is = c.2 ∙ (ap (λ (q : ReplicaState). q.me) fact ∙ entered_me command r);
        group_is = c.1 ∙ ap (λ (q : ReplicaState). q.group) fact;
        owes = (let low = c.3 in omega (arith, low, owes));
        sent = (let mails5 = ap sum c.4 in let b1 = b.1 in let a1 = a.1 in omega (arith, mails5, b1, a1, welcome, reported));
        flights = c.5 ∙ (ap (λ (q : ReplicaState). without_flight (next r) q.leader.flights) fact ∙ ap (λ (l : LeaderState Command). without_flight (next r) l.flights) (entered_flights ways command r));
        ready = c.6 ∙ (ap (λ (q : ReplicaState). without_slot q.ready (next r)) fact ∙ ap (λ (es : List (ℕ × Command)). without_slot es (next r)) (entered_ready command r));
        backlog = c.7 ∙ (ap (λ (q : ReplicaState). q.backlog) fact ∙ entered_calls command r);
        sets = c.8 ∙ ap (λ (q : ReplicaState). q.sets) fact;
        log = c.9 ∙ ap (λ (q : ReplicaState). q.log) fact;
        reports = c.10 ∙ (ap (λ (q : ReplicaState). q.leader.reports) fact ∙ ap (λ (l : LeaderState Command). l.reports) (entered_flights ways command r));
      } in
      then place5.0 place5.1 counts

  pub counted_owes : (command : Command) (place : Place) (said : ℕ) → IsCounting command place.0 → (entered command place.0).group.core.gone ≡ None → is_member (members (entered command place.0)) place.0.me ≡ true
      → (said_place command place).0 ≡ entered command place.0 → sum (said_place command place).1 ≤ sum place.1 + said
      → 8 + said + 3 * length (newcomers command place.0) ≤ offered_owes ways.most command
      → place_owes ways (executed_one true command place) ≤ place_owes ways place
  counted_owes command (r, mails) said is_counting stands stays state reported paid =
      counted_ends (λ p. place_owes ways p ≤ place_owes ways (r, mails)) command (r, mails) said is_counting state reported
      (λ q more counts.
      let gone : q.group.core.gone ≡ None = ap (λ (g : Group). g.core.gone) counts.group_is ∙ stands in
      let member : is_member (members q) q.me ≡ true = ap (λ n. is_member (members q) n) counts.me_is ∙ (ap (λ (g : Group). is_member g.core.members r.me) counts.group_is ∙ stays) in
      let total : replica_owes ways.most q + sum more ≤ replica_owes ways.most r + sum mails = (let low = counts.owes in let sent = counts.sent in omega (arith, low, sent, paid)) in
      let last = at_end (q, more) (replica_owes ways.most r + sum mails) counts.running gone member total in
      omega (arith, last))

  -- ---- a leader that is no member any more stops, and its group is to elect another

  pub stops_idle : (hint : Option ℕ) (r : ReplicaState) (mails : List Mail) → r.leader.flights ≡ [] → r.ready ≡ [] → r.backlog ≡ [] →
      ((stopped hint (r, mails)).0.running ≡ false) × (replica_owes ways.most (stopped hint (r, mails)).0 ≡ 0) × ((stopped hint (r, mails)).1 ≡ mails)
  unfolding ended answered_all dismissed_all
  stops_idle hint r mails f e c = (
    refl,
    refl,
    ap (λ (backlog : List Command). dismissed_all r.me (name_of r) hint (Says.NotLeader hint) backlog (answered_all r.me (name_of r) (Says.NotLeader hint) (under_way r) mails)) c
        ∙ ap (λ (commands : List Command). answered_all r.me (name_of r) (Says.NotLeader hint) commands mails) (taken_none r (open_slots r) f e),
  )

  pub left_stops : (r : ReplicaState) (mails : List Mail) → r.running ≡ true → r.group.core.gone ≡ None → is_member (members r) r.me ≡ false → left (r, mails) ≡ stopped (Some (least_of (members r))) (r, mails)
  unfolding left
  left_stops r mails running stands other =
      ap (λ c. cond c (left_gone r.group.core.gone (r, mails)) (r, mails)) running
      ∙ (ap (λ (g : Option Route). left_gone g (r, mails)) stands ∙ ap (λ c. cond c (r, mails) (stopped (Some (least_of (members r))) (r, mails))) other)

  pub leaving_owes : (command : Command) (place : Place) (said : ℕ) → IsCounting command place.0 → (entered command place.0).group.core.gone ≡ None → is_member (members (entered command place.0)) place.0.me ≡ false
      → without_flight (next place.0) place.0.leader.flights ≡ [] → without_slot place.0.ready (next place.0) ≡ [] → place.0.backlog ≡ []
      → (said_place command place).0 ≡ entered command place.0 → sum (said_place command place).1 ≤ sum place.1 + said
      → 8 + said + 3 * length (newcomers command place.0) + election ≤ offered_owes ways.most command
      → place_owes ways (executed_one true command place) ≤ place_owes ways place
  leaving_owes command (r, mails) said is_counting stands leaves flights ready backlog state reported paid =
      counted_ends (λ p. place_owes ways p ≤ place_owes ways (r, mails)) command (r, mails) said is_counting state reported
      (λ q more counts.
      let gone : q.group.core.gone ≡ None = ap (λ (g : Group). g.core.gone) counts.group_is ∙ stands in
      let member : is_member (members q) q.me ≡ false = ap (λ n. is_member (members q) n) counts.me_is ∙ (ap (λ (g : Group). is_member g.core.members r.me) counts.group_is ∙ leaves) in
      let hint = Some (least_of (members q)) in
      let off = stopped hint (q, more) in
      let stop = stops_idle hint q more (counts.flights ∙ flights) (counts.ready ∙ ready) (counts.backlog ∙ backlog) in
      let same = ap (λ p. place_owes ways (looked p)) (left_stops q more counts.running gone member) in
      let last = looked_owes ways off.0 off.1 stop.0 in
      let none = stop.1 in
      let mail = ap sum stop.2 in
      let low = counts.owes in
      let sent = counts.sent in
      omega (arith, same, last, none, mail, low, sent, paid))
