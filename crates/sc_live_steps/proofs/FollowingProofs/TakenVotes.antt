-- A vote that a leader's table takes is counted, and what it decides is executed, as a leader's row says.
use Rattle.std.proofs.Common.{◌≡◌, ℕ, zero, suc, ◌+◌, ◌-◌, ◌<◌, ◌≤◌, ◌&&◌, ◌||◌, not, eqb, ltb, Bool, true, false, true≢false, cond, List, [], ◌∷◌, length, Option, Some, None, ◌⊎◌, inl, inr, refl, sym, ◌∙◌, ap, subst, arith}
use Rattle.std.specs.Prelude.{is_some, slice_get}
use Rattle.std.specs.Option.{option_map}
use Rattle.std.proofs.lemmas.Bool.{and_from, and_parts, cases_eq, cases_lt, cond-true, cond-false, eqb-true, le-ltb, lt-ltb}
use Rattle.sc_base.specs.Definitions.{Each, same_ballot, votes_of, is_majority, IsRoster, is_member}
use Rattle.sc_node_table.specs.Values.{Ballot, Command, Counted, Chosen, NotYet, Flight, Report}
use Rattle.sc_base.proofs.Lemmas.{ballot_is, ballot_itself}
use Rattle.sc_words.specs.paxos.PaxosDefinitions.{LeaderState, flight_at, without_flight, without_flight_at, kept_voters, add_voter, voters_after, with_voters, tallied, vote_at, counted}
use Rattle.sc_node_table.specs.NodeDefinitions.{executed, has_room, ReplicaState, Executed, childless, listed, next, set_at, either, taken_at, flying, at_slot, with_slot, leads, readied, vote_tallied, voted, accepted_row}
use Rattle.sc_live_steps.specs.following.FollowingDefinitions.{Mark, Votes, Promises, Course, Progress, Sets, IsLed, voters_of, IsPolled, IsLeadOf, LeadsInto, AreEntries, StopsAlone, DecidesNext, AreAt, MayOffer, IsOrderly, IsCount, IsCounted}
use Rattle.sc_live_steps.proofs.FollowingProofs.ExecutedEntries.{none_leads, executions_lead}
use Rattle.sc_live_steps.proofs.FollowingProofs.FlightSlots.{flight_out, slot_in, slot_over, polled_here, polled_out}
use Rattle.sc_live_steps.proofs.FollowingProofs.LeaderTables.{voters_fly, fly_voters, none_taken, Counts, leads_into}
use Rattle.sc_live_steps.proofs.FollowingProofs.FlightOrder.{decided_orderly, polled_orderly}
use Rattle.sc_live_steps.proofs.FollowingProofs.KeptVotes.{HasVoted, vote_kept}

-- ---- nothing changes for what is in flight

module _ (at : Sets) (now : Progress) (taken : Option Mark) (r : ReplicaState) (was : IsLeadOf at now r) (takes : Each IsCount (listed taken))
    (ignored : (slot : ℕ) (voters : List ℕ) → voters_of r slot ≡ Some voters → (node : ℕ) → taken ≡ Some (Votes node now.course.ballot slot) → ⊥) (top : Ballot) (promisers : List ℕ) (reports : List (Report Command)) (acts backlog : List Command)
    (known : (who : ℕ) → is_member r.leader.promisers who ≡ true → is_member promisers who ≡ true) (counts : (who : ℕ) → taken ≡ Some (Promises who now.course.ballot) → is_member promisers who ≡ true)
    (new : (who : ℕ) → is_member promisers who ≡ true → (is_member r.leader.promisers who ≡ true) ⊎ (taken ≡ Some (Promises who now.course.ballot))) where
  -- another greatest ballot, others whose promises are counted, and other queues
  abbrev pub beside : ReplicaState
  beside = record r { top = top; leader = record r.leader { promisers = promisers; reports = reports }; acts = acts; backlog = backlog }

  pub counts_beside : Counts at now taken r beside
  counts_beside = record {
    takes = takes;
    led = record {
      running = was.led.running;
      stands = was.led.stands;
      first = was.led.first;
      mine = was.led.mine;
      member = was.led.member;
      was = was.led.was;
      ahead = was.led.ahead;
      roster = was.led.roster;
      may = record { ballot = was.led.may.ballot; sets = was.led.may.sets; low = was.led.may.low; high = was.led.may.high; taken = was.led.may.taken; free = was.led.may.free };
    };
    same_next = refl;
    same_me = refl;
    same_name = refl;
    same_promise = refl;
    kept = λ slot voters e elsewhere. e;
    grown = λ slot voters e. record { before = voters; flew = was.voters slot ∙ e; keeps = λ node m. m; counts = λ node t m. absurd (ignored slot voters e node t) };
    polled = was.polled;
    counted = known;
    counts = counts;
    takes_new = new;
  }

-- ---- the members of an open slot

sets_get : (at : Sets) (from : ℕ) (sets : List (List ℕ)) (k : ℕ) → AreAt at from sets → k < length sets → slice_get sets k ≡ Some (at (from + k))
sets_get at from [] k are lt = absurd (omega (arith, lt))
sets_get at from (set ∷ sets) zero are lt = ap Some (sym are.0 ∙ ap at (omega arith))
sets_get at from (set ∷ sets) (suc k) are lt = sets_get at (from + 1) sets k are.1 (omega (arith, lt)) ∙ ap (λ n. Some (at n)) (omega arith)

pub set_is : (at : Sets) (course : Course) (r : ReplicaState) (slot : ℕ) → MayOffer at course r → next r ≤ slot → slot < course.bound → set_at slot r ≡ Some (at slot)
set_is at course r slot m least most =
    let high = m.high in
    cond-false (ltb slot (next r)) None (slice_get r.sets (slot - next r)) (le-ltb slot (next r) least)
    ∙ (sets_get at (next r) r.sets (slot - next r) m.sets (omega (arith, least, most, high)) ∙ ap (λ n. Some (at n)) (omega (arith, least)))

-- ---- other flights, and other commands that are ready

module _ (at : Sets) (course : Course) (r : ReplicaState) (led : IsLed at course r) (flights : List (Flight Command)) (ready : List (ℕ × Command)) where
  abbrev pub with_both : ReplicaState
  with_both = record r { leader = record r.leader { flights = flights }; ready = ready }

  pub led_with : ((s : ℕ) → is_some (taken_at with_both s) ≡ is_some (taken_at r s)) → IsLed at course with_both
  led_with same = record {
    running = led.running;
    stands = led.stands;
    first = led.first;
    mine = led.mine;
    member = led.member;
    was = led.was;
    ahead = led.ahead;
    roster = led.roster;
    may = record {
      ballot = led.may.ballot;
      sets = led.may.sets;
      low = led.may.low;
      high = led.may.high;
      taken = λ s least most. same s ∙ led.may.taken s least most;
      free = λ s least. none (taken_at with_both s) (same s ∙ ap is_some (led.may.free s least));
    };
  }
    where
      none : (o : Option Command) → is_some o ≡ false → o ≡ None
      none None e = refl
      none (Some c) e = absurd (true≢false e)

-- ---- the vote

module _ (at : Sets) (now : Progress) (from : ℕ) (ballot : Ballot) (slot : ℕ) (r : ReplicaState) (rosters : (s : ℕ) → IsRoster (at s)) (was : IsLeadOf at now r) (decides : DecidesNext at from ballot slot r)
    (P : Executed → Type 0) (plain : (mid : ReplicaState) → Counts at now (Some (Votes from ballot slot)) r mid → (IsOrderly r → IsOrderly mid) → P (childless (mid, [])))
    (execution : (command : Command) (mid : ReplicaState) → Counts at now (Some (Votes from ballot slot)) r mid → at_slot mid.ready (next mid) ≡ Some command → AreEntries at command (mid, [])
    → ((s : ℕ) (c : Command) → at_slot mid.ready s ≡ Some c → (flying r s ≡ Some c) ⊎ (at_slot r.ready s ≡ Some c)) → (IsOrderly r → IsOrderly mid) → P (executed true command (mid, []))) where
  abbrev vote : Option Mark
  vote = Some (Votes from ballot slot)

  no_promise : (who : ℕ) → vote ≡ Some (Promises who now.course.ballot) → is_member r.leader.promisers who ≡ true
  no_promise who e = cc

  -- it is none for what is in flight
  stays : (ballot ≡ now.course.ballot → (voters : List ℕ) → voters_of r slot ≡ Some voters → ⊥) → P (childless (r, []))
  stays none = plain r (counts_beside at now vote r was (tt, tt) (λ s voters e node t. other s voters e node t) r.top r.leader.promisers r.leader.reports r.acts r.backlog (λ who m. m) no_promise (λ who m. inl m)) (λ o. o)
    where
      other : (s : ℕ) (voters : List ℕ) → voters_of r s ≡ Some voters → (node : ℕ) → vote ≡ Some (Votes node now.course.ballot s) → ⊥
      other s voters e node t =
          let same : ballot ≡ now.course.ballot = cc in
          let there : s ≡ slot = cc in
          none same voters (subst (λ n. voters_of r n ≡ Some voters) there e)

  -- it is for what is in flight at a slot that is not executed
  module _ (flight : Flight Command) (found : flight_at slot r.leader.flights ≡ Some flight) (least : next r ≤ slot) (most : slot < now.course.bound) (same : ballot ≡ now.course.ballot) where
    abbrev voters2 : Option (List ℕ)
    voters2 = voters_after (at slot) from flight.voters

    -- an open slot but this one has other votes
    elsewhere : (s : ℕ) (voters : List ℕ) → (s ≡ slot → ⊥) → voters_of r s ≡ Some voters → IsCounted at now.course vote s voters
    elsewhere s voters ne e = record { before = voters; flew = was.voters s ∙ e; keeps = λ node m. m; counts = λ node t m. absurd (ne (apart node t)) }
      where
        apart : (node : ℕ) → vote ≡ Some (Votes node now.course.ballot s) → s ≡ slot
        apart node t = cc

    -- ---- no majority yet

    abbrev polling : ReplicaState
    polling = with_both at now.course r was.led (with_voters slot voters2 r.leader.flights) r.ready

    flight_same : (s : ℕ) → option_map (λ (f : Flight Command). f.value) (flight_at s (with_voters slot voters2 r.leader.flights)) ≡ flying r s
    flight_same s = elim (cases_eq s slot) [
      | inl e ↦ subst (λ n. option_map (λ (f : Flight Command). f.value) (flight_at n (with_voters slot voters2 r.leader.flights)) ≡ flying r n) (sym e)
          (ap (λ o. option_map (λ (f : Flight Command). f.value) o) (polled_here slot voters2 r.leader.flights) ∙ values (flight_at slot r.leader.flights))
      | inr ne ↦ ap (λ o. option_map (λ (f : Flight Command). f.value) o) (polled_out slot s voters2 r.leader.flights ne)
    ]
      where
        values : (o : Option (Flight Command)) → option_map (λ (f : Flight Command). f.value) (option_map (λ (f : Flight Command). record f { voters = voters2 }) o) ≡ option_map (λ (f : Flight Command). f.value) o
        values None = refl
        values (Some f) = refl

    led_polling : IsLed at now.course polling
    led_polling = led_with at now.course r was.led (with_voters slot voters2 r.leader.flights) r.ready (λ s. ap (λ o. is_some (either o (at_slot r.ready s))) (flight_same s))

    polling_same : (s : ℕ) → (s ≡ slot → ⊥) → voters_of polling s ≡ voters_of r s
    polling_same s ne =
        ap (λ o. cond (not r.running || (ltb s (next r) || is_some (at_slot r.ready s))) None (option_map (λ (f : Flight Command). kept_voters f.voters) o)) (polled_out slot s voters2 r.leader.flights ne)

    -- the votes at this slot
    at_this : (voters : List ℕ) → voters_of polling slot ≡ Some voters → (kept_voters voters2 ≡ voters) × (voters_of r slot ≡ Some (kept_voters flight.voters))
    at_this voters e =
        let v = voters_fly polling slot voters e in
        let fact : Some (record flight { voters = voters2 }) ≡ Some v.flight = sym (polled_here slot voters2 r.leader.flights ∙ ap (λ o. option_map (λ (f : Flight Command). record f { voters = voters2 }) o) found) ∙ v.found in
        (flight_is v.flight fact ∙ v.votes, fly_voters r slot flight was.led.running least v.ready found)
      where
        flight_is : (f : Flight Command) → Some (record flight { voters = voters2 }) ≡ Some f → kept_voters voters2 ≡ kept_voters f.voters
        flight_is f i = (let there : (record flight { voters = voters2 }) ≡ f = cc in ap (λ (x : Flight Command). kept_voters x.voters) there)

    counts_polling : is_majority (at slot) (kept_voters voters2) ≡ false → Counts at now vote r polling
    counts_polling undecided = record {
      takes = (tt, tt);
      led = led_polling;
      same_next = refl;
      same_me = refl;
      same_name = refl;
      same_promise = refl;
      kept = λ s voters e away. polling_same s (λ fact. away.0 fact) ∙ e;
      grown = λ s voters e. elim (cases_eq s slot) [
        | inl fact ↦ subst (λ n. IsCounted at now.course vote n voters) (sym fact) (here voters (subst (λ n. voters_of polling n ≡ Some voters) fact e))
        | inr ne ↦ elsewhere s voters ne (sym (polling_same s ne) ∙ e)
      ];
      polled = λ s voters e. elim (cases_eq s slot) [
        | inl fact ↦ subst (λ n. IsPolled (at n) voters) (sym fact) (polled_this voters (subst (λ n. voters_of polling n ≡ Some voters) fact e))
        | inr ne ↦ was.polled s voters (sym (polling_same s ne) ∙ e)
      ];
      counted = λ who m. m;
      counts = no_promise;
      takes_new = λ who m. inl m;
    }
      where
        has_voted : (m : is_member (at slot) from ≡ true) → voters_of r slot ≡ Some (kept_voters flight.voters) → HasVoted (at slot) from flight.voters voters2
        has_voted m old = (let p = was.polled slot (kept_voters flight.voters) old in vote_kept (at slot) from flight.voters (rosters slot) m p.few p.undecided)

        here : (voters : List ℕ) → voters_of polling slot ≡ Some voters → IsCounted at now.course vote slot voters
        here voters e = (let t = at_this voters e in record {
          before = kept_voters flight.voters;
          flew = was.voters slot ∙ t.1;
          keeps = λ node m. subst (λ l. is_member l node ≡ true) t.0 (keeps_all node m t.1);
          counts = λ node taken m. subst (λ l. is_member l node ≡ true) t.0 (own node taken m t.1);
        })
          where
            keeps_all : (node : ℕ) → is_member (kept_voters flight.voters) node ≡ true → voters_of r slot ≡ Some (kept_voters flight.voters) → is_member (kept_voters voters2) node ≡ true
            keeps_all node m old = by (is_member (at slot) from) refl
              where
                by : (b : Bool) → is_member (at slot) from ≡ b → is_member (kept_voters voters2) node ≡ true
                by true mine = (has_voted mine old).kept node m
                by false out = ap (λ o. is_member (kept_voters o) node) (cond-false (is_member (at slot) from) (add_voter from flight.voters) flight.voters out) ∙ m

            own : (node : ℕ) → vote ≡ Some (Votes node now.course.ballot slot) → is_member (at slot) node ≡ true → voters_of r slot ≡ Some (kept_voters flight.voters) → is_member (kept_voters voters2) node ≡ true
            own node taken m old =
                let fact : from ≡ node = cc in
                subst (λ n. is_member (kept_voters voters2) n ≡ true) fact ((has_voted (ap (is_member (at slot)) fact ∙ m) old).own)

        polled_this : (voters : List ℕ) → voters_of polling slot ≡ Some voters → IsPolled (at slot) voters
        polled_this voters e = (let t = at_this voters e in subst (IsPolled (at slot)) t.0 (record { few = few t.1; undecided = undecided }))
          where
            few : voters_of r slot ≡ Some (kept_voters flight.voters) → length (kept_voters voters2) ≤ votes_of (at slot) (kept_voters voters2)
            few old = by (is_member (at slot) from) refl
              where
                by : (b : Bool) → is_member (at slot) from ≡ b → length (kept_voters voters2) ≤ votes_of (at slot) (kept_voters voters2)
                by true mine = (has_voted mine old).few
                by false out = subst (λ o. length (kept_voters o) ≤ votes_of (at slot) (kept_voters o)) (sym (cond-false (is_member (at slot) from) (add_voter from flight.voters) flight.voters out)) (was.polled slot (kept_voters flight.voters) old).few

    -- ---- a majority

    abbrev deciding : ReplicaState
    deciding = with_both at now.course r was.led (without_flight slot r.leader.flights) (with_slot r.ready slot flight.value)

    deciding_there : is_some (taken_at deciding slot) ≡ true
    deciding_there = there (flying deciding slot) (at_slot (with_slot r.ready slot flight.value) slot) (slot_in slot flight.value r.ready)
      where
        there : (o p : Option Command) → p ≡ Some flight.value → is_some (either o p) ≡ true
        there None p e = ap is_some e
        there (Some c) p e = refl

    was_there : is_some (taken_at r slot) ≡ true
    was_there = ap (λ (o : Option (Flight Command)). is_some (either (option_map (λ (f : Flight Command). f.value) o) (at_slot r.ready slot))) found

    taken_same : (s : ℕ) → (s ≡ slot → ⊥) → taken_at deciding s ≡ taken_at r s
    taken_same s ne =
        ap (λ (o : Option (Flight Command)). either (option_map (λ (f : Flight Command). f.value) o) (at_slot (with_slot r.ready slot flight.value) s)) (flight_out slot s r.leader.flights ne)
        ∙ ap (λ o. either (flying r s) o) (slot_over slot s flight.value r.ready ne)

    led_deciding : IsLed at now.course deciding
    led_deciding = led_with at now.course r was.led (without_flight slot r.leader.flights) (with_slot r.ready slot flight.value) (λ s. elim (cases_eq s slot) [
      | inl fact ↦ subst (λ n. is_some (taken_at deciding n) ≡ is_some (taken_at r n)) (sym fact) (deciding_there ∙ sym was_there)
      | inr ne ↦ ap is_some (taken_same s ne)
    ])

    deciding_same : (s : ℕ) → (s ≡ slot → ⊥) → voters_of deciding s ≡ voters_of r s
    deciding_same s ne =
        ap (λ o. cond (not r.running || (ltb s (next r) || is_some (at_slot (with_slot r.ready slot flight.value) s))) None (option_map (λ (f : Flight Command). kept_voters f.voters) o)) (flight_out slot s r.leader.flights ne)
        ∙ ap (λ o. cond (not r.running || (ltb s (next r) || is_some o)) None (option_map (λ (f : Flight Command). kept_voters f.voters) (flight_at s r.leader.flights))) (slot_over slot s flight.value r.ready ne)

    -- nothing flies at this slot any more
    over : (voters : List ℕ) → voters_of deciding slot ≡ Some voters → ⊥
    over voters e = (let v = voters_fly deciding slot voters e in both (at_slot (with_slot r.ready slot flight.value) slot) (slot_in slot flight.value r.ready) v.ready)
      where
        both : (o : Option Command) → o ≡ Some flight.value → o ≡ None → ⊥
        both o i j = cc

    -- so what flies then is elsewhere
    away : (s : ℕ) (voters : List ℕ) → voters_of deciding s ≡ Some voters → s ≡ slot → ⊥
    away s voters e fact = over voters (subst (λ n. voters_of deciding n ≡ Some voters) fact e)

    counts_deciding : Counts at now vote r deciding
    counts_deciding = record {
      takes = (tt, tt);
      led = led_deciding;
      same_next = refl;
      same_me = refl;
      same_name = refl;
      same_promise = refl;
      kept = λ s voters e apart. deciding_same s (λ fact. apart.0 fact) ∙ e;
      grown = λ s voters e. (let ne = away s voters e in elsewhere s voters ne (sym (deciding_same s ne) ∙ e));
      polled = λ s voters e. was.polled s voters (sym (deciding_same s (away s voters e)) ∙ e);
      counted = λ who m. m;
      counts = no_promise;
      takes_new = λ who m. inl m;
    }

    -- ---- either

    -- what is ready then was in flight or ready
    ready_before : (s : ℕ) (c : Command) → at_slot deciding.ready s ≡ Some c → (flying r s ≡ Some c) ⊎ (at_slot r.ready s ≡ Some c)
    ready_before s c e = elim (cases_eq s slot) [
      | inl fact ↦ (let there : Some flight.value ≡ Some c = sym (slot_in slot flight.value r.ready) ∙ subst (λ n. at_slot (with_slot r.ready slot flight.value) n ≡ Some c) fact e in
          inl (ap (flying r) fact ∙ (ap (λ o. option_map (λ (f : Flight Command). f.value) o) found ∙ there)))
      | inr ne ↦ inr (sym (slot_over slot s flight.value r.ready ne) ∙ e)
    ]

    ready_next : slot ≡ next r → at_slot deciding.ready (next deciding) ≡ Some flight.value
    ready_next fact = subst (λ n. at_slot (with_slot r.ready slot flight.value) n ≡ Some flight.value) fact (slot_in slot flight.value r.ready)

    decided : counted from ballot slot (at slot) r.leader ≡ (Chosen flight.value, without_flight_at slot r.leader) → P (readied slot flight.value (record r { leader = without_flight_at slot r.leader }, []))
    unfolding readied
    decided chosen = by (eqb slot (next r) && has_room r) refl
      where
        by : (b : Bool) → (eqb slot (next r) && has_room r) ≡ b → P (cond b (executed true flight.value (deciding, [])) (childless (deciding, [])))
        by true t =
            let fact : slot ≡ next r = eqb-true slot (next r) (and_parts (eqb slot (next r)) (has_room r) t).0 in
            execution flight.value deciding counts_deciding (ready_next fact) (decides flight.value (without_flight_at slot r.leader) fact chosen) ready_before (λ o. decided_orderly r o slot flight found)
        by false f = plain deciding counts_deciding (λ o. decided_orderly r o slot flight found)

    tallies : counted from ballot slot (at slot) r.leader ≡ tallied slot flight.value (at slot) voters2 r.leader → P (vote_tallied slot (tallied slot flight.value (at slot) voters2 r.leader) (r, []))
    tallies fact = by (is_majority (at slot) (kept_voters voters2)) refl fact
      where
        yet : Counted Command × LeaderState Command
        yet = (NotYet (length (kept_voters voters2)), record r.leader { flights = with_voters slot voters2 r.leader.flights })

        by : (b : Bool) → is_majority (at slot) (kept_voters voters2) ≡ b → counted from ballot slot (at slot) r.leader ≡ cond b (Chosen flight.value, without_flight_at slot r.leader) yet
            → P (vote_tallied slot (cond b (Chosen flight.value, without_flight_at slot r.leader) yet) (r, []))
        by true t chosen = decided chosen
        by false f chosen = plain polling (counts_polling f) (λ o. polled_orderly r o slot flight found voters2)

  -- ---- the whole

  counted_is : (set : List ℕ) → ballot ≡ now.course.ballot → counted from ballot slot set r.leader ≡ vote_at from slot set (flight_at slot r.leader.flights) r.leader
  counted_is set same =
      let mine : same_ballot ballot r.leader.ballot ≡ true = ap (same_ballot ballot) (was.led.may.ballot ∙ sym same) ∙ ballot_itself ballot in
      cond-true (same_ballot ballot r.leader.ballot) (vote_at from slot set (flight_at slot r.leader.flights) r.leader) (NotYet 0, r.leader) mine

  in_flight : ballot ≡ now.course.ballot → (set : List ℕ) → set_at slot r ≡ Some set → (o : Option (Flight Command)) → flight_at slot r.leader.flights ≡ o → P (vote_tallied slot (vote_at from slot set o r.leader) (r, []))
  in_flight same set e None i = stays (λ _ voters v. (let fly = voters_fly r slot voters v in none_flies fly.flight fly.found i))
    where
      none_flies : (f : Flight Command) → flight_at slot r.leader.flights ≡ Some f → flight_at slot r.leader.flights ≡ None → ⊥
      none_flies f i j = cc
  in_flight same set e (Some flight) i =
      let least : next r ≤ slot = elim (cases_lt slot (next r)) [ inl lt ↦ absurd (closed lt) | inr ge ↦ ge ] in
      let most : slot < now.course.bound = elim (cases_lt slot now.course.bound) [ inl lt ↦ lt | inr ge ↦ absurd (free (none_taken r slot (was.led.may.free slot ge)).0) ] in
      let fact : set ≡ at slot = same_set (sym e ∙ set_is at now.course r slot was.led.may least most) in
      subst (λ l. P (vote_tallied slot (tallied slot flight.value l (voters_after l from flight.voters) r.leader) (r, []))) (sym fact)
      (tallies flight i least most same (counted_is (at slot) same ∙ ap (λ o. vote_at from slot (at slot) o r.leader) i))
    where
      closed : slot < next r → ⊥
      closed lt = (let no = cond-true (ltb slot (next r)) None (slice_get r.sets (slot - next r)) (lt-ltb slot (next r) lt) in apart (set_at slot r) no e)
        where
          apart : (o : Option (List ℕ)) → o ≡ None → o ≡ Some set → ⊥
          apart o i j = cc

      free : flight_at slot r.leader.flights ≡ None → ⊥
      free j = cc

      same_set : Some set ≡ Some (at slot) → set ≡ at slot
      same_set k = cc

  in_set : ballot ≡ now.course.ballot → (o : Option (List ℕ)) → set_at slot r ≡ o → P (voted from ballot slot o (r, []))
  in_set same None e = stays (λ _ voters v. (let fly = voters_fly r slot voters v in open_is fly.flight fly.found (fly.from)))
    where
      open_is : (f : Flight Command) → flight_at slot r.leader.flights ≡ Some f → next r ≤ slot → ⊥
      open_is f i least = elim (cases_lt slot now.course.bound) [
        | inl lt ↦ apart (sym e ∙ set_is at now.course r slot was.led.may least lt)
        | inr ge ↦ free (none_taken r slot (was.led.may.free slot ge)).0
      ]
        where
          apart : None ≡ Some (at slot) → ⊥
          apart k = cc

          free : flight_at slot r.leader.flights ≡ None → ⊥
          free j = cc
  in_set same (Some set) e =
      subst (λ q. P (vote_tallied slot q (r, []))) (sym (counted_is set same)) (in_flight same set e (flight_at slot r.leader.flights) refl)

  pub vote_row : P (accepted_row from ballot slot (r, []))
  unfolding accepted_row
  vote_row = by (leads ballot r) refl
    where
      by : (b : Bool) → leads ballot r ≡ b → P (cond b (voted from ballot slot (set_at slot r) (r, [])) (childless (r, [])))
      by true t =
          let same : ballot ≡ now.course.ballot = ballot_is ballot r.leader.ballot (and_parts r.running (same_ballot ballot r.leader.ballot) t).1 ∙ was.led.may.ballot in
          in_set same (set_at slot r) refl
      by false f = stays (λ same voters v.
          (let mine : same_ballot ballot r.leader.ballot ≡ true = ap (same_ballot ballot) (was.led.may.ballot ∙ sym same) ∙ ballot_itself ballot in
          true≢false (sym (and_from r.running (same_ballot ballot r.leader.ballot) was.led.running mine) ∙ f)))

pub vote_leads : (at : Sets) (now : Progress) (from : ℕ) (ballot : Ballot) (slot : ℕ) (r : ReplicaState) → ((s : ℕ) → IsRoster (at s)) → IsLeadOf at now r → DecidesNext at from ballot slot r
    → StopsAlone now.course (accepted_row from ballot slot (r, [])).0.0 → LeadsInto at now (Some (Votes from ballot slot)) r (accepted_row from ballot slot (r, [])).0
vote_leads at now from ballot slot r rosters was decides =
    vote_row at now from ballot slot r rosters was decides (λ e. StopsAlone now.course e.0.0 → LeadsInto at now (Some (Votes from ballot slot)) r e.0)
    (λ mid c keeps alone. leads_into at now (Some (Votes from ballot slot)) r mid [] (mid, []) was c (λ who. refl) (none_leads at now.course (mid, []) c.led) alone)
    (λ command mid c ready entries before keeps alone. leads_into at now (Some (Votes from ballot slot)) r mid [] (executed true command (mid, [])).0 was c (λ who. refl) (executions_lead at now.course command (mid, []) c.led ready entries.0 entries.1) alone)
