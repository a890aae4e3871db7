-- What a leader's table does by what it counts, executes and offers is a leader's row.
use Rattle.std.proofs.Common.{◌≡◌, ℕ, ◌+◌, ◌<◌, ◌≤◌, ◌||◌, not, eqb, ltb, Bool, true, false, true≢false, cond, List, [], ◌++◌, Option, Some, None, ◌⊎◌, inl, inr, refl, sym, ◌∙◌, ap, subst, arith}
use Rattle.std.specs.Prelude.{is_some}
use Rattle.std.specs.Option.{option_map}
use Rattle.std.proofs.lemmas.Bool.{cases_lt, cond-true, cond-false, eqb-true, eq-eqb, le-ltb, lt-ltb, or_parts, or_from}
use Rattle.sc_base.specs.Definitions.{Among, Each, is_member}
use Rattle.sc_node_table.specs.Values.{Ballot, Command, Mail, Flight}
use Rattle.sc_words.specs.paxos.PaxosDefinitions.{flight_at, kept_voters}
use Rattle.sc_words.proofs.PaxosProofs.PaxosLemmas.{Each-among, Each-weaker, find_found}
use Rattle.sc_node_table.specs.NodeDefinitions.{ReplicaState, Place, listed, name_of, next, members, either, taken_at, flying, at_slot}
use Rattle.sc_live_steps.specs.following.FollowingDefinitions.{Mark, Asks, Promises, Course, Progress, Sets, IsInFlight, members_at, IsLed, IsStill, IsStopped, LeadsBy, voters_of, IsPolled, IsLeadOf, progress_by, LeadsInto, StopsAlone, marks_for, to_bound, IsCount, IsElsewhere, IsOffer, IsOffered, IsCounted, IsKept, Leads, taught_from}
use Rattle.sc_live_steps.proofs.FollowingProofs.LeastMembers.{none_decided}
use Rattle.sc_live_steps.proofs.FollowingProofs.Marks.{among-right}
use Rattle.std.proofs.lemmas.Option.{same_Some}
pub use Rattle.sc_law_walks.proofs.WalkLemmas.{none_there}

-- ---- the votes for what is in flight

-- one runs, and a slot that is neither executed nor ready has something in flight, with these votes
pub record Flies (r : ReplicaState) (slot : ℕ) (voters : List ℕ) : Type 0 where
  pub running : r.running ≡ true
  pub from : next r ≤ slot
  pub ready : at_slot r.ready slot ≡ None
  pub flight : Flight Command
  pub found : flight_at slot r.leader.flights ≡ Some flight
  pub votes : kept_voters flight.voters ≡ voters

pub voters_fly : (r : ReplicaState) (slot : ℕ) (voters : List ℕ) → voters_of r slot ≡ Some voters → Flies r slot voters
voters_fly r slot voters e = by (not r.running || (ltb slot (next r) || is_some (at_slot r.ready slot))) refl e
  where
    found_by : (r.running ≡ true) → next r ≤ slot → at_slot r.ready slot ≡ None → (o : Option (Flight Command)) → flight_at slot r.leader.flights ≡ o → option_map (λ (f : Flight Command). kept_voters f.voters) o ≡ Some voters → Flies r slot voters
    found_by on from none None fact e = cc
    found_by on from none (Some f) fact e = record { running = on; from = from; ready = none; flight = f; found = fact; votes = same_Some (kept_voters f.voters) voters e }

    runs : (b : Bool) → not b ≡ false → b ≡ true
    runs true e = refl
    runs false e = absurd (true≢false e)

    by : (b : Bool) → (not r.running || (ltb slot (next r) || is_some (at_slot r.ready slot))) ≡ b
        → cond b None (option_map (λ (f : Flight Command). kept_voters f.voters) (flight_at slot r.leader.flights)) ≡ Some voters → Flies r slot voters
    by true t e = cc
    by false f e =
        let one = or_parts (not r.running) (ltb slot (next r) || is_some (at_slot r.ready slot)) f in
        let two = or_parts (ltb slot (next r)) (is_some (at_slot r.ready slot)) one.1 in
        let from : next r ≤ slot = elim (cases_lt slot (next r)) [ inl lt ↦ absurd (true≢false (sym (lt-ltb slot (next r) lt) ∙ two.0)) | inr ge ↦ ge ] in
        found_by (runs r.running one.0) from (none_there (at_slot r.ready slot) two.1) (flight_at slot r.leader.flights) refl e

pub fly_voters : (r : ReplicaState) (slot : ℕ) (flight : Flight Command) → r.running ≡ true → next r ≤ slot → at_slot r.ready slot ≡ None → flight_at slot r.leader.flights ≡ Some flight → voters_of r slot ≡ Some (kept_voters flight.voters)
fly_voters r slot flight on from none found =
    cond-false (not r.running || (ltb slot (next r) || is_some (at_slot r.ready slot))) None (option_map (λ (f : Flight Command). kept_voters f.voters) (flight_at slot r.leader.flights))
    (or_from (not r.running) (ltb slot (next r) || is_some (at_slot r.ready slot)) (ap not on) (or_from (ltb slot (next r)) (is_some (at_slot r.ready slot)) (le-ltb slot (next r) from) (ap is_some none)))
    ∙ ap (λ o. option_map (λ (f : Flight Command). kept_voters f.voters) o) found

-- what is found at a slot has that slot
found_at : (slot : ℕ) (fs : List (Flight Command)) (flight : Flight Command) → flight_at slot fs ≡ Some flight → flight.slot ≡ slot
found_at slot fs flight e = eqb-true flight.slot slot (find_found (λ (f : Flight Command). eqb f.slot slot) fs flight e).1

-- where nothing is in flight or ready, nothing is either
pub none_taken : (r : ReplicaState) (slot : ℕ) → taken_at r slot ≡ None → (flight_at slot r.leader.flights ≡ None) × (at_slot r.ready slot ≡ None)
none_taken r slot e = by (flight_at slot r.leader.flights) refl (at_slot r.ready slot) refl e
  where
    by : (o : Option (Flight Command)) → flight_at slot r.leader.flights ≡ o → (p : Option Command) → at_slot r.ready slot ≡ p → either (option_map (λ (f : Flight Command). f.value) o) p ≡ None → (flight_at slot r.leader.flights ≡ None) × (at_slot r.ready slot ≡ None)
    by None i None j k = (i, j)
    by None i (Some c) j k = cc
    by (Some f) i p j k = cc

-- what is in flight or ready at a slot, but not ready, is in flight
pub taken_flies : (r : ReplicaState) (slot : ℕ) → is_some (taken_at r slot) ≡ true → at_slot r.ready slot ≡ None → (flight : Flight Command) × (flight_at slot r.leader.flights ≡ Some flight)
taken_flies r slot t none = by (flight_at slot r.leader.flights) refl (ap (λ p. is_some (either (flying r slot) p)) (sym none) ∙ t)
  where
    by : (o : Option (Flight Command)) → flight_at slot r.leader.flights ≡ o → is_some (either (option_map (λ (f : Flight Command). f.value) o) None) ≡ true → (flight : Flight Command) × (flight_at slot r.leader.flights ≡ Some flight)
    by None i k = absurd (true≢false (sym k))
    by (Some f) i k = (f, i)

pub none_polled : (members : List ℕ) → IsPolled members []
none_polled members = record { few = omega arith; undecided = none_decided members }

-- an offer in a course is one in another with the same ballot and bound
same_offer : (at : Sets) (one other : Course) (from who : ℕ) → one.ballot ≡ other.ballot → one.bound ≡ other.bound → (mark : Mark) → IsOffer at one from who mark → IsOffer at other from who mark
same_offer at one other from who same_ballot same_bound (Asks ballot slot) i = (let lt = i.2 in (i.0 ∙ same_ballot, i.1, omega (arith, lt, same_bound), i.3))
same_offer at one other from who same_ballot same_bound _ i = absurd i

-- ---- what is counted

-- a leader that counts what it takes leads on as one to which this is known: what is in flight stays so but for the vote that is taken
pub record Counts (at : Sets) (now : Progress) (taken : Option Mark) (r after : ReplicaState) : Type 0 where
  pub takes : Each IsCount (listed taken)
  pub led : IsLed at now.course after
  pub same_next : next after ≡ next r
  pub same_me : after.me ≡ r.me
  pub same_name : name_of after ≡ name_of r
  pub same_promise : after.acceptor.promised ≡ r.acceptor.promised
  pub kept : (slot : ℕ) (voters : List ℕ) → voters_of r slot ≡ Some voters → Each (λ mark. IsElsewhere mark slot) (listed taken) → voters_of after slot ≡ Some voters
  pub grown : (slot : ℕ) (voters : List ℕ) → voters_of after slot ≡ Some voters → IsCounted at now.course taken slot voters
  pub polled : (slot : ℕ) (voters : List ℕ) → voters_of after slot ≡ Some voters → IsPolled (at slot) voters
  pub counted : (who : ℕ) → is_member r.leader.promisers who ≡ true → is_member after.leader.promisers who ≡ true
  pub counts : (who : ℕ) → taken ≡ Some (Promises who now.course.ballot) → is_member after.leader.promisers who ≡ true
  pub takes_new : (who : ℕ) → is_member after.leader.promisers who ≡ true → (is_member r.leader.promisers who ≡ true) ⊎ (taken ≡ Some (Promises who now.course.ballot))

-- ---- what follows from it

module _ (at : Sets) (now : Progress) (taken : Option Mark) (r mid : ReplicaState) (mails : List Mail) (after : Place) (was : IsLeadOf at now r) (c : Counts at now taken r mid)
    (silent : (who : ℕ) → marks_for (name_of r) who mails ≡ []) (b : LeadsBy at now.course (mid, mails) after) (alone : StopsAlone now.course after.0) where
  abbrev then : Progress
  then = progress_by b.bound now after.0

  abbrev sent : ℕ → List Mark
  sent who = marks_for (name_of r) who after.1

  same_me : after.0.me ≡ r.me
  same_me = b.me ∙ c.same_me

  still_of : after.0.running ≡ true → IsStill at now.course b.bound mid after.0
  still_of on = elim (b.state) [ inl still ↦ still | inr stopped ↦ absurd (true≢false (sym on ∙ stopped.0.running)) ]

  stopped_of : after.0.running ≡ false → IsStopped after.0 × (1 ≤ b.executed) × (b.bound ≡ now.course.bound)
  stopped_of off = elim (b.state) [ inl still ↦ absurd (true≢false (sym still.led.running ∙ off)) | inr stopped ↦ stopped ]

  sends : (who : ℕ) → sent who ≡ taught_from at now.course now.course.newest b.executed who ++ b.offers who
  sends who =
      subst (λ n. marks_for n who after.1 ≡ marks_for n who mails ++ (taught_from at now.course (next mid) b.executed who ++ b.offers who)) c.same_name (b.sends who)
      ∙ (ap (λ l. l ++ (taught_from at now.course (next mid) b.executed who ++ b.offers who)) (silent who)
      ∙ ap (λ n. taught_from at now.course n b.executed who ++ b.offers who) (c.same_next ∙ sym was.newest))

  -- what is in flight then was in flight, or is offered in this row
  origin : (slot : ℕ) (voters : List ℕ) → voters_of after.0 slot ≡ Some voters → (voters_of mid slot ≡ Some voters) ⊎ ((now.course.bound ≤ slot) × (slot < b.bound) × (voters ≡ []))
  origin slot voters e =
      let v = voters_fly after.0 slot voters e in
      elim ((still_of v.running).flies.grown slot v.flight v.from v.found) [
        | inl i ↦ inl (fly_voters mid slot v.flight c.led.running (let f = v.from in let up = b.reaches in omega (arith, f, up)) (sym (b.ready v.running slot v.from) ∙ v.ready) i ∙ ap Some v.votes)
        | inr new ↦ inr ((let at_it = found_at slot mid_after v.flight v.found in let f = new.least in omega (arith, at_it, f)), (let at_it = found_at slot mid_after v.flight v.found in let t = new.most in omega (arith, at_it, t)), sym v.votes ∙ ap kept_voters new.none)
      ]
    where
      mid_after : List (Flight Command)
      mid_after = after.0.leader.flights

  polled_then : (slot : ℕ) (voters : List ℕ) → voters_of after.0 slot ≡ Some voters → IsPolled (at slot) voters
  polled_then slot voters e = elim (origin slot voters e) [ inl i ↦ c.polled slot voters i | inr new ↦ subst (IsPolled (at slot)) (sym new.2) (none_polled (at slot)) ]

  flying_then : (slot : ℕ) (voters : List ℕ) → voters_of after.0 slot ≡ Some voters → IsInFlight at then.course slot voters
  flying_then slot voters e =
      let v = voters_fly after.0 slot voters e in
      record {
        runs = v.running;
        from = v.from;
        to = elim (cases_lt slot b.bound) [ inl lt ↦ lt | inr ge ↦ absurd (apart v.flight v.found (none_taken after.0 slot ((still_of v.running).led.may.free slot ge)).0) ];
        undecided = (polled_then slot voters e).undecided;
      }
    where
      apart : (f : Flight Command) → flight_at slot after.0.leader.flights ≡ Some f → flight_at slot after.0.leader.flights ≡ None → ⊥
      apart f i j = cc

  kept_then : (slot : ℕ) (voters : List ℕ) → now.course.voters slot ≡ Some voters → Each (λ mark. IsElsewhere mark slot) (listed taken) → IsKept now.course then.course slot voters
  kept_then slot voters e elsewhere =
      let v = voters_fly mid slot voters (c.kept slot voters (sym (was.voters slot) ∙ e) elsewhere) in
      let from : next after.0 ≤ slot = elim (cases_lt slot (next after.0)) [ inl lt ↦ absurd (true≢false (sym (b.drawn slot v.from lt) ∙ ap is_some v.ready)) | inr ge ↦ ge ] in
      record {
        from = from;
        same = λ on. fly_voters after.0 slot v.flight on from (b.ready on slot from ∙ v.ready) ((still_of on).flies.kept slot v.flight from v.found) ∙ ap Some v.votes;
      }

  grown_then : (slot : ℕ) (voters : List ℕ) → voters_of after.0 slot ≡ Some voters → IsOffered at now.course sent slot voters ⊎ IsCounted at now.course taken slot voters
  grown_then slot voters e = elim (origin slot voters e) [
    | inl i ↦ inr (c.grown slot voters i)
    | inr new ↦ inl (record {
      from = new.0;
      none = new.2;
      asks = λ node mine. subst (Among (Asks now.course.ballot slot)) (sym (sends node))
          (among-right (Asks now.course.ballot slot) (taught_from at now.course now.course.newest b.executed node) (b.offers node) (b.asked slot node new.0 new.1 mine));
    })
  ]

  unvoted_then : after.0.running ≡ true → (ballot : Ballot) (slot : ℕ) → Among (Asks ballot slot) (b.offers r.me) → voters_of after.0 slot ≡ Some []
  unvoted_then on ballot slot a =
      let offer = Each-among (IsOffer at (to_bound b.bound now.course) now.course.bound r.me) (b.offers r.me) (Asks ballot slot) (b.asks r.me) a in
      let least = offer.1 in
      let from : next after.0 ≤ slot = (let w = b.within in let up = b.reaches in omega (arith, least, w, up)) in
      let old = none_taken mid slot (c.led.may.free slot offer.1) in
      let none = b.ready on slot from ∙ old.1 in
      let there = taken_flies after.0 slot ((still_of on).led.may.taken slot from offer.2) none in
      fly_voters after.0 slot there.0 on from none there.1
      ∙ elim ((still_of on).flies.grown slot there.0 from there.1) as (λ _. Some (kept_voters there.0.voters) ≡ Some []) [
        | inl i ↦ absurd (apart there.0 i old.0)
        | inr new ↦ ap (λ o. Some (kept_voters o)) new.none
      ]
    where
      apart : (f : Flight Command) → flight_at slot mid.leader.flights ≡ Some f → flight_at slot mid.leader.flights ≡ None → ⊥
      apart f i j = cc

  own_next : then.next r.me ≡ next after.0
  own_next = cond-true (eqb r.me after.0.me) (next after.0) (now.next r.me) (eq-eqb r.me after.0.me (sym same_me))

  own_promise : then.promise r.me ≡ after.0.acceptor.promised
  own_promise = cond-true (eqb r.me after.0.me) after.0.acceptor.promised (now.promise r.me) (eq-eqb r.me after.0.me (sym same_me))

  high_then : b.bound ≤ next after.0 + 4
  high_then = elim (b.state) [
    | inl still ↦ (let h = still.led.may.high in let len = still.led.ahead in omega (arith, h, len))
    | inr stopped ↦ (let same = stopped.2 in let all = alone stopped.0.running in omega (arith, same, all))
  ]

  leads_then : Leads at now then r.me taken sent
  leads_then = record {
    runs = was.runs;
    mine = sym was.led.mine;
    takes = c.takes;
    executed = b.executed;
    newest = b.reaches ∙ ap (λ n. n + b.executed) (c.same_next ∙ sym was.newest);
    next = own_next;
    promise = own_promise ∙ (b.promise ∙ (c.same_promise ∙ sym was.promise));
    ballot = refl;
    first = refl;
    within = (let w = b.within in let up = b.reaches in omega (arith, w, up));
    bound = b.up;
    high = high_then;
    stays = λ on. (let s = (still_of on).led in (ap (λ l. is_member l r.me) s.was ∙ (ap (is_member (members after.0)) (sym same_me) ∙ s.member), ap is_some s.stands));
    leaves = λ off stands. elim ((stopped_of off).0.over) [
      | inl went ↦ absurd (true≢false (sym (ap is_some went.1) ∙ stands))
      | inr left ↦ ap (λ l. is_member l r.me) b.was ∙ (ap (is_member (members after.0)) (sym same_me) ∙ left.1)
    ];
    stops = λ off. (let s = stopped_of off in (s.1, s.2 ∙ sym (alone off)));
    offers = b.offers;
    sends = sends;
    asks = λ who. Each-weaker (IsOffer at (to_bound b.bound now.course) now.course.bound who) (IsOffer at then.course now.course.bound who) (same_offer at (to_bound b.bound now.course) then.course now.course.bound who refl refl) (b.offers who) (b.asks who);
    unvoted = unvoted_then;
    flying = flying_then;
    kept = kept_then;
    grown = grown_then;
    counted = λ on who was_counted. ap (λ l. is_member l who) (still_of on).promisers ∙ c.counted who (sym (was.counted who) ∙ was_counted);
    counts = λ on who e. ap (λ l. is_member l who) (still_of on).promisers ∙ c.counts who e;
  }

  led_then : IsLed at (to_bound b.bound now.course) after.0 → IsLed at then.course after.0
  led_then led = record {
    running = led.running;
    stands = led.stands;
    first = led.first;
    mine = led.mine;
    member = led.member;
    was = led.was;
    ahead = led.ahead;
    roster = led.roster;
    may = record { ballot = led.may.ballot; sets = led.may.sets; low = led.may.low; high = led.may.high; taken = led.may.taken; free = led.may.free };
  }

  pub leads_into : LeadsInto at now taken r after
  leads_into = record {
    me = same_me;
    named = b.named ∙ c.same_name;
    bound = b.bound;
    stayed = λ slot least most. ap (is_member (members_at at (slot + 1))) (sym c.same_me) ∙ b.stayed slot (let same = c.same_next in omega (arith, least, same)) most;
    leads = leads_then;
    promisers = λ on who m. c.takes_new who (ap (λ l. is_member l who) (sym (still_of on).promisers) ∙ m);
    goes_on = λ on. record {
      led = led_then (still_of on).led;
      newest = refl;
      runs = on;
      stands = ap is_some (still_of on).led.stands;
      executed = cond-true (eqb after.0.me after.0.me) (next after.0) (now.next after.0.me) (eq-eqb after.0.me after.0.me refl);
      promise = cond-true (eqb after.0.me after.0.me) after.0.acceptor.promised (now.promise after.0.me) (eq-eqb after.0.me after.0.me refl);
      voters = λ slot. refl;
      polled = polled_then;
      counted = λ node. refl;
    };
  }
