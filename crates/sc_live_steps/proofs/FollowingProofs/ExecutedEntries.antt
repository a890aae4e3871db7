-- All that a leader executes at once, and what it then offers, is what the abstract row says.
use Rattle.std.proofs.Common.{◌≡◌, ℕ, suc, ◌+◌, ◌<◌, ◌≤◌, ◌&&◌, eqb, Bool, true, false, true≢false, cond, List, [], ◌∷◌, ◌++◌, length, Option, Some, None, ◌⊎◌, inl, inr, refl, sym, ◌∙◌, ap, subst, arith, append-nil}
use Rattle.std.specs.Prelude.{is_some}
use Rattle.std.specs.Option.{option_map}
use Rattle.std.proofs.lemmas.Bool.{cond_both, cases_eq, cases_lt}
use Rattle.sc_base.specs.Definitions.{Each, is_member}
use Rattle.sc_node_table.specs.Values.{Command, Route, Flight}
use Rattle.sc_words.specs.paxos.PaxosDefinitions.{flight_at, without_flight}
use Rattle.sc_words.proofs.PaxosProofs.PaxosLemmas.{Each-append, Each-weaker}
use Rattle.sc_node_table.specs.NodeDefinitions.{entered, executed_one, next_child, has_room, next_ready, ending, executed_ready, executed, pumped, ReplicaState, Place, Executed, childless, name_of, next, members, forgotten, either, taken_at, flying, rest_of, at_slot, without_slot, slots_ahead}
use Rattle.sc_law_walks.specs.WalkDefinitions.{IfThere}
use Rattle.sc_live_steps.specs.following.FollowingDefinitions.{Mark, Asks, Course, Sets, members_at, IsLed, IsNext, led_on, IsOn, IsOff, LeadsPast, AreNext, FliesOn, IsStill, IsStopped, LeadsBy, ExecutionsLead, marks_for, AreAt, MayOffer, IsBegun, to_bound, OffersBy, IsOffer, reported_of, taught_from}
use Rattle.sc_live_steps.proofs.FollowingProofs.CountedEntries.{entered_keeps, entries_lead}
use Rattle.sc_live_steps.proofs.FollowingProofs.LeastMembers.{append_one}
use Rattle.sc_live_steps.proofs.FollowingProofs.FlightSlots.{flight_out, slot_out}
use Rattle.sc_live_steps.proofs.FollowingProofs.Marks.{among-left, among-right}
use Rattle.sc_live_steps.proofs.FollowingProofs.Offers.{pumps_offer}
use Rattle.sc_law_walks.proofs.WalkLemmas.{entered_next, idle_ready, idle_pump}
use Rattle.sc_law_walks.proofs.Queues.{turned_sets as still_four}

-- ---- the members of the open slots

pub are_push : (at : Sets) (slot : ℕ) (sets : List (List ℕ)) (set : List ℕ) → AreAt at slot sets → at (slot + length sets) ≡ set → AreAt at slot (sets ++ set ∷ [])
are_push at slot [] set are e = (ap at (omega arith) ∙ e, tt)
are_push at slot (s ∷ sets) set are e = (are.0, are_push at (slot + 1) sets set are.1 (ap at (omega arith) ∙ e))

pub are_next : (at : Sets) (slot : ℕ) (sets : List (List ℕ)) (set : List ℕ) → AreAt at slot sets → length sets ≡ slots_ahead → at (slot + slots_ahead) ≡ set → AreAt at (slot + 1) (rest_of sets ++ set ∷ [])
are_next at slot [] set are len e = absurd (omega (arith, len))
are_next at slot (s ∷ sets) set are len e = are_push at (slot + 1) sets set are.1 (ap at (omega (arith, len)) ∙ e)

pub entered_sets : (command : Command) (r : ReplicaState) → (entered command r).sets ≡ rest_of r.sets ++ members (entered command r) ∷ []
unfolding entered forgotten
entered_sets command r = refl

entered_promise : (command : Command) (r : ReplicaState) → (entered command r).acceptor.promised ≡ r.acceptor.promised
unfolding entered forgotten
entered_promise command r = refl

-- ---- one that leads on after an entry leads in the course

module _ (at : Sets) (course : Course) (command : Command) (r : ReplicaState) (led : IsLed at course r) (ready : at_slot r.ready (next r) ≡ Some command) (is_next : IsNext at command r) where
  pub below_bound : next r < course.bound
  below_bound = elim (cases_lt (next r) course.bound) [ inl lt ↦ lt | inr ge ↦ absurd (none (led.may.free (next r) ge)) ]
    where
      by : (o : Option Command) → either o (Some command) ≡ None → ⊥
      by None e = cc
      by (Some c) e = cc

      none : taken_at r (next r) ≡ None → ⊥
      none e = by (flying r (next r)) (ap (λ o. either (flying r (next r)) o) (sym ready) ∙ e)

  pub stays_led : (acts backlog : List Command) → (entered command r).group.core.gone ≡ None → is_member (members (entered command r)) r.me ≡ true → IsLed at course (led_on command acts backlog r)
  stays_led acts backlog stands stays = record {
    running = (entered_keeps command r).0 ∙ led.running;
    stands = stands;
    first = led.first;
    mine = led.mine ∙ sym (entered_keeps command r).3;
    member = ap (is_member (members (entered command r))) (entered_keeps command r).3 ∙ stays;
    was = ap (members_at at) (entered_next command r) ∙ is_next.fact;
    ahead = ap length (entered_sets command r) ∙ still_four r.sets (members (entered command r)) led.ahead;
    roster = is_next.roster;
    may = record {
      ballot = led.may.ballot;
      sets = subst (λ n. AreAt at n (entered command r).sets) (sym (entered_next command r)) (subst (AreAt at (next r + 1)) (sym (entered_sets command r))
          (are_next at (next r) r.sets (members (entered command r)) led.may.sets led.ahead (ap at (omega arith) ∙ is_next.fact)));
      low = (let up = entered_next command r in let lt = below_bound in omega (arith, up, lt));
      high = (let up = entered_next command r in let h = led.may.high in let len = ap length (entered_sets command r) ∙ still_four r.sets (members (entered command r)) led.ahead in let was = led.ahead in omega (arith, up, h, len, was));
      taken = λ s least most. ap is_some (same s (apart s least)) ∙ led.may.taken s (let up = entered_next command r in omega (arith, up, least)) most;
      free = λ s least. same s (λ e. (let lt = below_bound in omega (arith, lt, least, e))) ∙ led.may.free s least;
    };
  }
    where
      apart : (s : ℕ) → next (entered command r) ≤ s → s ≡ next r → ⊥
      apart s least e = (let up = entered_next command r in omega (arith, up, least, e))

      same : (s : ℕ) → (s ≡ next r → ⊥) → taken_at (led_on command acts backlog r) s ≡ taken_at r s
      same s ne =
          ap (λ (o : Option (Flight Command)). either (option_map (λ flight. flight.value) o) (at_slot (without_slot r.ready (next r)) s)) (flight_out (next r) s r.leader.flights ne)
          ∙ ap (λ o. either (flying r s) o) (slot_out (next r) s r.ready ne)

  pub on_leads : (after : ReplicaState) → IsOn command r after → IsLed at course after
  on_leads after on = subst (IsLed at course) (sym on.fact) (stays_led on.acts on.backlog on.stands on.stays)

-- where it leads on, it is one entry further, and what is ready behind that one is so still
pub on_next : (command : Command) (r after : ReplicaState) → IsOn command r after → next after ≡ next r + 1
on_next command r after on = ap next on.fact ∙ entered_next command r

pub on_ready : (command : Command) (r after : ReplicaState) → IsOn command r after → (slot : ℕ) → (slot ≡ next r → ⊥) → at_slot after.ready slot ≡ at_slot r.ready slot
on_ready command r after on slot ne = ap (λ (q : ReplicaState). at_slot q.ready slot) on.fact ∙ slot_out (next r) slot r.ready ne

-- ---- nothing is executed

pub none_leads : (at : Sets) (course : Course) (place : Place) → IsLed at course place.0 → LeadsBy at course place place
none_leads at course place led = record {
  executed = 0;
  within = (let l = led.may.low in omega (arith, l));
  reaches = omega arith;
  me = refl;
  named = refl;
  promise = refl;
  was = led.was;
  stayed = λ slot least most. absurd (omega (arith, least, most));
  drawn = λ slot least most. absurd (omega (arith, least, most));
  ready = λ on slot least. refl;
  bound = course.bound;
  up = omega arith;
  offers = λ who. [];
  sends = λ who. sym (append-nil (marks_for (name_of place.0) who place.1));
  asks = λ who. tt;
  asked = λ slot node least most mine. (omega (arith, least, most));
  state = inl (record { led = led; promisers = refl; flies = record { kept = λ at flight least e. e; grown = λ at flight least e. inl e } });
}

-- ---- what is offered behind

in_left : (slot : ℕ) (fs begun : List (Flight Command)) (flight : Flight Command) → flight_at slot fs ≡ Some flight → flight_at slot (fs ++ begun) ≡ Some flight
in_left slot [] begun flight e = cc
in_left slot (f ∷ fs) begun flight e = by (eqb f.slot slot) (λ i. in_left slot fs begun flight i) e
  where
    by : (b : Bool) → (flight_at slot fs ≡ Some flight → flight_at slot (fs ++ begun) ≡ Some flight) → cond b (Some f) (flight_at slot fs) ≡ Some flight → cond b (Some f) (flight_at slot (fs ++ begun)) ≡ Some flight
    by true rest i = i
    by false rest i = rest i

in_right : (from to slot : ℕ) (begun : List (Flight Command)) (flight : Flight Command) → Each (IsBegun from to) begun → flight_at slot begun ≡ Some flight → IsBegun from to flight
in_right from to slot [] flight each e = cc
in_right from to slot (f ∷ fs) flight each e = by (eqb f.slot slot) (λ i. in_right from to slot fs flight each.1 i) e
  where
    by : (b : Bool) → (flight_at slot fs ≡ Some flight → IsBegun from to flight) → cond b (Some f) (flight_at slot fs) ≡ Some flight → IsBegun from to flight
    by true rest i = (let same : f ≡ flight = cc in subst (IsBegun from to) same each.0)
    by false rest i = rest i

in_either : (from to slot : ℕ) (fs begun : List (Flight Command)) (flight : Flight Command) → Each (IsBegun from to) begun → flight_at slot (fs ++ begun) ≡ Some flight → (flight_at slot fs ≡ Some flight) ⊎ IsBegun from to flight
in_either from to slot [] begun flight each e = inr (in_right from to slot begun flight each e)
in_either from to slot (f ∷ fs) begun flight each e = by (eqb f.slot slot) (λ i. in_either from to slot fs begun flight each i) e
  where
    by : (b : Bool) → (flight_at slot (fs ++ begun) ≡ Some flight → (flight_at slot fs ≡ Some flight) ⊎ IsBegun from to flight) → cond b (Some f) (flight_at slot (fs ++ begun)) ≡ Some flight
        → (cond b (Some f) (flight_at slot fs) ≡ Some flight) ⊎ IsBegun from to flight
    by true rest i = inl i
    by false rest i = rest i

wider : (at : Sets) (course : Course) (from from_then to to_then who : ℕ) → from_then ≤ from → to ≤ to_then → (mark : Mark) → IsOffer at (to_bound to course) from who mark → IsOffer at (to_bound to_then course) from_then who mark
wider at course from from_then to to_then who low high (Asks ballot slot) i = (let a = i.1 in let b = i.2 in (i.0, omega (arith, a, low), omega (arith, b, high), i.3))
wider at course from from_then to to_then who low high _ i = absurd i

module _ (at : Sets) (course : Course) (place mid : Place) (b : LeadsBy at course place mid) where
  abbrev more_offers : (after : Place) → OffersBy at (to_bound b.bound course) mid after → ℕ → List Mark
  more_offers after o who = b.offers who ++ o.offers who

  pumped_on : (after : Place) → IsStill at course b.bound place.0 mid.0 → OffersBy at (to_bound b.bound course) mid after → LeadsBy at course place after
  pumped_on after still o = record {
    executed = b.executed;
    within = b.within;
    reaches = ap (λ (q : ReplicaState). next q) o.fact ∙ b.reaches;
    me = ap (λ (q : ReplicaState). q.me) o.fact ∙ b.me;
    named = ap (λ (q : ReplicaState). name_of q) o.fact ∙ b.named;
    promise = ap (λ (q : ReplicaState). q.acceptor.promised) o.fact ∙ b.promise;
    was = subst (λ (q : ReplicaState). members_at at (next q) ≡ members q) (sym o.fact) b.was;
    stayed = λ slot least most. b.stayed slot least (let same = ap (λ (q : ReplicaState). next q) o.fact in omega (arith, most, same));
    drawn = λ slot least most. b.drawn slot least (let same = ap (λ (q : ReplicaState). next q) o.fact in omega (arith, most, same));
    ready = λ on slot least. ap (λ (q : ReplicaState). at_slot q.ready slot) o.fact
        ∙ b.ready (sym (ap (λ (q : ReplicaState). q.running) o.fact) ∙ on) slot (let same = ap (λ (q : ReplicaState). next q) o.fact in omega (arith, least, same));
    bound = o.bound;
    up = (let u = b.up in let v = o.up in omega (arith, u, v));
    offers = more_offers after o;
    sends = λ who.
        subst (λ n. marks_for n who after.1 ≡ marks_for n who mid.1 ++ o.offers who) b.named (o.sends who)
        ∙ (ap (λ l. l ++ o.offers who) (b.sends who)
        ∙ (append_one (marks_for (name_of place.0) who place.1) (taught_from at course (next place.0) b.executed who ++ b.offers who) (o.offers who)
        ∙ ap (λ l. marks_for (name_of place.0) who place.1 ++ l) (append_one (taught_from at course (next place.0) b.executed who) (b.offers who) (o.offers who))));
    asks = λ who. Each-append (IsOffer at (to_bound o.bound course) course.bound who) (b.offers who) (o.offers who)
        (Each-weaker (IsOffer at (to_bound b.bound course) course.bound who) (IsOffer at (to_bound o.bound course) course.bound who) (wider at course course.bound course.bound b.bound o.bound who (omega arith) o.up) (b.offers who) (b.asks who))
        (Each-weaker (IsOffer at (to_bound o.bound course) b.bound who) (IsOffer at (to_bound o.bound course) course.bound who) (wider at course b.bound course.bound o.bound o.bound who b.up (omega arith)) (o.offers who) (o.asks who));
    asked = λ slot node least most mine. elim (cases_lt slot b.bound) [
      | inl lt ↦ among-left (Asks course.ballot slot) (b.offers node) (o.offers node) (b.asked slot node least lt mine)
      | inr ge ↦ among-right (Asks course.ballot slot) (b.offers node) (o.offers node) (o.asked slot node ge most mine)
    ];
    state = inl (subst (IsStill at course o.bound place.0) (sym o.fact) (record { led = led_then; promisers = still.promisers; flies = flies_then }));
  }
    where
      led_then : IsLed at (to_bound o.bound course) (record mid.0 { leader = record mid.0.leader { flights = mid.0.leader.flights ++ o.begun }; acts = o.acts; backlog = o.backlog })
      led_then = record {
        running = still.led.running;
        stands = still.led.stands;
        first = still.led.first;
        mine = still.led.mine;
        member = still.led.member;
        was = still.led.was;
        ahead = still.led.ahead;
        roster = still.led.roster;
        may = subst (MayOffer at (to_bound o.bound course)) o.fact o.goes_on;
      }

      flies_then : FliesOn course.bound o.bound (next mid.0) place.0.leader.flights (mid.0.leader.flights ++ o.begun)
      flies_then = record {
        kept = λ s flight least e. in_left s mid.0.leader.flights o.begun flight (still.flies.kept s flight least e);
        grown = λ s flight least e. elim (in_either b.bound o.bound s mid.0.leader.flights o.begun flight o.fly e) [
          | inl i ↦ elim (still.flies.grown s flight least i) [
            | inl j ↦ inl j
            | inr j ↦ inr (record { least = j.least; most = (let m = j.most in let u = o.up in omega (arith, m, u)); none = j.none })
          ]
          | inr j ↦ inr (record { least = (let l = j.least in let u = b.up in omega (arith, l, u)); most = j.most; none = j.none })
        ];
      }

-- what a pump adds
pub pump_leads : (at : Sets) (course : Course) (place mid : Place) → LeadsBy at course place mid → LeadsBy at course place (pumped mid)
pump_leads at course place mid b = elim (b.state) [
  | inl still ↦ pumped_on at course place mid b (pumped mid) still (pumps_offer at (to_bound b.bound course) mid still.led.may)
  | inr stopped ↦ subst (LeadsBy at course place) (sym (idle_pump mid stopped.0.running)) b
]

-- ---- an entry before the rest

module _ (at : Sets) (course : Course) (command : Command) (place mid : Place) (led : IsLed at course place.0) (ready : at_slot place.0.ready (next place.0) ≡ Some command) (is_next : IsNext at command place.0)
    (past : LeadsPast at course command place mid) where
  name_mid : name_of mid.0 ≡ name_of place.0
  name_mid = elim (past.state) [
    | inl on ↦ ap name_of on.fact ∙ is_next.named
    | inr off ↦ ap name_of off.fact ∙ is_next.named
  ]

  next_mid : next mid.0 ≡ next place.0 + 1
  next_mid = elim (past.state) [
    | inl on ↦ ap next on.fact ∙ entered_next command place.0
    | inr off ↦ ap next off.fact ∙ entered_next command place.0
  ]

  me_mid : mid.0.me ≡ place.0.me
  me_mid = elim (past.state) [
    | inl on ↦ ap (λ (q : ReplicaState). q.me) on.fact ∙ (entered_keeps command place.0).3
    | inr off ↦ ap (λ (q : ReplicaState). q.me) off.fact ∙ (entered_keeps command place.0).3
  ]

  -- the entry of the next slot was ready
  drawn_one : (slot : ℕ) → slot ≡ next place.0 → is_some (at_slot place.0.ready slot) ≡ true
  drawn_one slot e = ap (λ s. is_some (at_slot place.0.ready s)) e ∙ ap is_some ready

  promise_mid : mid.0.acceptor.promised ≡ place.0.acceptor.promised
  promise_mid = elim (past.state) [
    | inl on ↦ ap (λ (q : ReplicaState). q.acceptor.promised) on.fact ∙ entered_promise command place.0
    | inr off ↦ ap (λ (q : ReplicaState). q.acceptor.promised) off.fact ∙ entered_promise command place.0
  ]

  -- what follows where it leads on
  before_rest : (on : IsOn command place.0 mid.0) (after : Place) → LeadsBy at course mid after → LeadsBy at course place after
  before_rest on after b = record {
    executed = suc b.executed;
    within = (let w = b.within in let n = next_mid in omega (arith, w, n));
    reaches = (let e = b.reaches in let n = next_mid in omega (arith, e, n));
    me = b.me ∙ me_mid;
    named = b.named ∙ name_mid;
    promise = b.promise ∙ promise_mid;
    was = b.was;
    stayed = λ slot least most. elim (cases_eq slot (next place.0)) [
      | inl e ↦ ap (λ s. is_member (members_at at (s + 1)) place.0.me) e ∙ (ap (λ l. is_member l place.0.me) is_next.fact ∙ on.stays)
      | inr ne ↦ ap (is_member (members_at at (slot + 1))) (sym me_mid) ∙ b.stayed slot (past_next slot least ne) most
    ];
    drawn = λ slot least most. elim (cases_eq slot (next place.0)) [
      | inl e ↦ drawn_one slot e
      | inr ne ↦ ap is_some (sym (on_ready command place.0 mid.0 on slot ne)) ∙ b.drawn slot (past_next slot least ne) most
    ];
    ready = λ goes slot least. b.ready goes slot least ∙ on_ready command place.0 mid.0 on slot (λ e. (let up = b.reaches in let n = next_mid in omega (arith, least, up, n, e)));
    bound = b.bound;
    up = b.up;
    offers = b.offers;
    sends = λ who. sends_then who;
    asks = b.asks;
    asked = b.asked;
    state = elim (b.state) [
      | inl still ↦ inl (record { led = still.led; promisers = still.promisers ∙ ap (λ (q : ReplicaState). q.leader.promisers) on.fact; flies = flies_then still.led still.flies })
      | inr stopped ↦ inr (stopped.0, omega arith, stopped.2)
    ];
  }
    where
      past_next : (slot : ℕ) → next place.0 ≤ slot → (slot ≡ next place.0 → ⊥) → next mid.0 ≤ slot
      past_next slot least ne = elim (cases_lt (next place.0) slot) [ inl lt ↦ (let n = next_mid in omega (arith, n, lt)) | inr ge ↦ absurd (ne (omega (arith, least, ge))) ]

      sends_then : (who : ℕ) → marks_for (name_of place.0) who after.1 ≡ marks_for (name_of place.0) who place.1 ++ ((reported_of at course (next place.0) who ++ taught_from at course (next place.0 + 1) b.executed who) ++ b.offers who)
      sends_then who =
          let old = marks_for (name_of place.0) who place.1 in
          let one = reported_of at course (next place.0) who in
          let rest = taught_from at course (next place.0 + 1) b.executed who in
          subst (λ n. marks_for n who after.1 ≡ marks_for n who mid.1 ++ (taught_from at course (next mid.0) b.executed who ++ b.offers who)) name_mid (b.sends who)
          ∙ (ap (λ n. marks_for (name_of place.0) who mid.1 ++ (taught_from at course n b.executed who ++ b.offers who)) next_mid
          ∙ (ap (λ l. l ++ (rest ++ b.offers who)) (past.sends who)
          ∙ (append_one old one (rest ++ b.offers who) ∙ ap (λ l. old ++ l) (sym (append_one one rest (b.offers who))))))

      flights_are : mid.0.leader.flights ≡ without_flight (next place.0) place.0.leader.flights
      flights_are = ap (λ (q : ReplicaState). q.leader.flights) on.fact

      flies_then : IsLed at (to_bound b.bound course) after.0 → FliesOn course.bound b.bound (next after.0) mid.0.leader.flights after.0.leader.flights → FliesOn course.bound b.bound (next after.0) place.0.leader.flights after.0.leader.flights
      flies_then there f = record {
        kept = λ s flight least e. f.kept s flight least (same s least ∙ e);
        grown = λ s flight least e. elim (f.grown s flight least e) [ inl i ↦ inl (sym (same s least) ∙ i) | inr j ↦ inr j ];
      }
        where
          same : (s : ℕ) → next after.0 ≤ s → flight_at s mid.0.leader.flights ≡ flight_at s place.0.leader.flights
          same s least =
              ap (flight_at s) flights_are
              ∙ flight_out (next place.0) s place.0.leader.flights (λ e. (let up = b.reaches in let n = next_mid in omega (arith, least, up, n, e)))

  -- where it runs no longer
  last_one : IsOff command place.0 mid.0 → LeadsBy at course place mid
  last_one off = record {
    executed = 1;
    within = (let lt = below_bound at course command place.0 led ready is_next in omega (arith, lt));
    reaches = next_mid;
    me = me_mid;
    named = name_mid;
    promise = promise_mid;
    was = subst (λ (q : ReplicaState). members_at at (next q) ≡ members q) (sym off.fact) (ap (members_at at) (entered_next command place.0) ∙ is_next.fact);
    stayed = λ slot least most. absurd (let n = next_mid in omega (arith, least, most, n));
    drawn = λ slot least most. drawn_one slot (let n = next_mid in omega (arith, least, most, n));
    ready = λ goes slot least. absurd (true≢false (sym goes ∙ ap (λ (q : ReplicaState). q.running) off.fact));
    bound = course.bound;
    up = omega arith;
    offers = λ who. [];
    sends = λ who. past.sends who
        ∙ ap (λ l. marks_for (name_of place.0) who place.1 ++ l) (sym (append-nil (reported_of at course (next place.0) who ++ []) ∙ append-nil (reported_of at course (next place.0) who)));
    asks = λ who. tt;
    asked = λ slot node least most mine. (omega (arith, least, most));
    state = inr (subst IsStopped (sym off.fact) (record { running = refl; over = still_over off.over }), omega arith, refl);
  }
    where
      still_over : ((into : Route) × ((entered command place.0).group.core.gone ≡ Some into)) ⊎ (((entered command place.0).group.core.gone ≡ None) × (is_member (members (entered command place.0)) place.0.me ≡ false))
          → ((into : Route) × ((entered command place.0).group.core.gone ≡ Some into)) ⊎ (((entered command place.0).group.core.gone ≡ None) × (is_member (members (entered command place.0)) (entered command place.0).me ≡ false))
      still_over (inl went) = inl went
      still_over (inr leaves) = inr (leaves.0, ap (is_member (members (entered command place.0))) (entered_keeps command place.0).3 ∙ leaves.1)

-- ---- an entry, those that are ready behind it, and a pump

step_leads : (at : Sets) (course : Course) (command : Command) (place : Place) (es : List (ℕ × Command)) → IsLed at course place.0 → at_slot place.0.ready (next place.0) ≡ Some command → IsNext at command place.0
    → (IsLed at course (executed_one true command place).0 → LeadsBy at course (executed_one true command place) (executed_ready es (executed_one true command place)).0)
    → LeadsBy at course place (pumped (executed_ready es (executed_one true command place)).0)
step_leads at course command place es led ready is_next rest =
    let mid : Place = executed_one true command place in
    let past = entries_lead at course command place led is_next in
    elim (past.state) [
      | inl on ↦ before_rest at course command place mid led ready is_next past on (pumped (executed_ready es mid).0)
          (pump_leads at course mid (executed_ready es mid).0 (rest (on_leads at course command place.0 led ready is_next mid.0 on)))
      | inr off ↦ (let still : mid.0.running ≡ false = ap (λ (q : ReplicaState). q.running) off.fact in
          subst (λ (s : Executed). LeadsBy at course place (pumped s.0)) (sym (idle_ready es mid still))
          (subst (LeadsBy at course place) (sym (idle_pump mid still)) (last_one at course command place mid led ready is_next past off)))
    ]

pub ready_of : (command : Command) (r : ReplicaState) → next_ready r ≡ Some command → at_slot r.ready (next r) ≡ Some command
ready_of command r = cond_both (r.running && has_room r) (at_slot r.ready (next r)) None (λ o. o ≡ Some command → at_slot r.ready (next r) ≡ Some command) (λ _ fact. fact) (λ _ fact. cc)

pub ready_leads : (at : Sets) (course : Course) (es : List (ℕ × Command)) (place : Place) → IsLed at course place.0 → AreNext at es place → LeadsBy at course place (executed_ready es place).0
unfolding executed_ready
ready_leads at course [] place led are = none_leads at course place led
ready_leads at course (e ∷ es) place led are = by (next_ready place.0) refl are (λ q l a. ready_leads at course es q l a)
  where
    Goes : Executed → Type 0
    Goes s = LeadsBy at course place s.0

    by : (o : Option Command) → next_ready place.0 ≡ o → IfThere (λ command. IsNext at command place.0 × AreNext at es (executed_one true command place)) (Unit {0}) o
        → ((q : Place) → IsLed at course q.0 → AreNext at es q → LeadsBy at course q (executed_ready es q).0)
        → Goes (elim o [ None ↦ childless place | Some command ↦ ending (next_child command place.0) (executed_ready es (executed_one true command place)) ])
    by None i one more = none_leads at course place led
    by (Some command) i one more = step_leads at course command place es led (ready_of command place.0 i) one.0 (λ l. more (executed_one true command place) l one.1)

-- ---- the whole

-- All that a leader executes at once, and the pump after each, sends what `taught_from` says of these entries, and then asks for what it offers behind what is in flight, if it leads on.
pub executions_lead : ExecutionsLead
unfolding executed
executions_lead at course command place led ready is_next are =
    let mid : Place = executed_one true command place in
    step_leads at course command place mid.0.ready led ready is_next (λ l. ready_leads at course mid.0.ready mid l are)
