-- The row of an Accepted: a vote that decides moves its command from what is in flight to what is ready.
use Rattle.std.proofs.Common.{◌≡◌, ℕ, ◌+◌, ◌≤◌, ◌&&◌, eqb, Bool, true, false, cond, List, [], ◌∷◌, length, Option, Some, None, refl, ap, arith}
use Rattle.std.proofs.lemmas.Bool.{eqb-true, and_parts}
use Rattle.std.proofs.lemmas.List.Sums.{sum_by-cons}
use Rattle.sc_node_table.specs.Values.{Ballot, Command, Mail, Chosen, NotYet, Flight}
use Rattle.sc_base.specs.Definitions.{same_ballot, is_majority}
use Rattle.sc_words.specs.paxos.PaxosDefinitions.{flight_at, without_flight, without_flight_at, kept_voters, voters_after, with_voters, tallied, vote_at}
use Rattle.sc_node_table.specs.NodeDefinitions.{has_room, executed, ReplicaState, Place, Executed, childless, next, set_at, readied, vote_tallied, voted, accepted_row}
use Rattle.sc_live_steps.specs.calm.CalmDefinitions.{readied_at, DecidesFreely, Ways, offered_owes, flights_owe, place_owes}
use Rattle.sc_live_steps.proofs.CalmStepsProofs.PotentialSums.{with_slot_owes}

-- ---- what is in flight

-- votes owe nothing
with_voters_owes : (most slot : ℕ) (voters : Option (List ℕ)) (flights : List (Flight Command)) → flights_owe most (with_voters slot voters flights) ≡ flights_owe most flights
with_voters_owes most slot voters [] = refl
with_voters_owes most slot voters (flight ∷ flights) = by (eqb flight.slot slot) (with_voters_owes most slot voters flights)
  where
    by : (b : Bool) → flights_owe most (with_voters slot voters flights) ≡ flights_owe most flights →
        flights_owe most (cond b (record flight { voters = voters } ∷ flights) (flight ∷ with_voters slot voters flights)) ≡ flights_owe most (flight ∷ flights)
    by true same =
        let s = sum_by-cons (λ (f : Flight Command). offered_owes most f.value) flight flights in
        let t = sum_by-cons (λ (f : Flight Command). offered_owes most f.value) (record flight { voters = voters }) flights in
        omega (arith, s, t)
    by false same =
        let s = sum_by-cons (λ (f : Flight Command). offered_owes most f.value) flight flights in
        let t = sum_by-cons (λ (f : Flight Command). offered_owes most f.value) flight (with_voters slot voters flights) in
        omega (arith, same, s, t)

-- what was in flight at a slot is not owed any more
taken_flight_owes : (most slot : ℕ) (flights : List (Flight Command)) (flight : Flight Command) → flight_at slot flights ≡ Some flight → flights_owe most (without_flight slot flights) + offered_owes most flight.value ≡ flights_owe most flights
taken_flight_owes most slot [] flight e = cc
taken_flight_owes most slot (f ∷ fs) flight e = by (eqb f.slot slot) e (taken_flight_owes most slot fs flight)
  where
    by : (b : Bool) → cond b (Some f) (flight_at slot fs) ≡ Some flight → (flight_at slot fs ≡ Some flight → flights_owe most (without_flight slot fs) + offered_owes most flight.value ≡ flights_owe most fs) →
        flights_owe most (cond b fs (f ∷ without_flight slot fs)) + offered_owes most flight.value ≡ flights_owe most (f ∷ fs)
    by true fact more =
        let same : f ≡ flight = cc in
        let s = sum_by-cons (λ (x : Flight Command). offered_owes most x.value) f fs in
        let t = ap (λ (x : Flight Command). offered_owes most x.value) same in
        omega (arith, s, t)
    by false fact more =
        let le = more fact in
        let s = sum_by-cons (λ (x : Flight Command). offered_owes most x.value) f fs in
        let t = sum_by-cons (λ (x : Flight Command). offered_owes most x.value) f (without_flight slot fs) in
        omega (arith, le, s, t)

module _ (ways : Ways) where
  -- ---- the row

  -- one that becomes ready owes what it owed in flight
  readied_owes : (slot : ℕ) (flight : Flight Command) (r : ReplicaState) (mails : List Mail) → flight_at slot r.leader.flights ≡ Some flight → place_owes ways (readied_at slot flight.value r, mails) ≤ place_owes ways (r, mails)
  readied_owes slot flight r mails e =
      let a = taken_flight_owes ways.most slot r.leader.flights flight e in
      let b = with_slot_owes ways.most slot flight.value r.ready in
      omega (arith, a, b)

  chosen_owes : (slot : ℕ) (flight : Flight Command) (r : ReplicaState) (mails : List Mail) → r.running ≡ true → DecidesFreely ways slot (r, mails) → flight_at slot r.leader.flights ≡ Some flight →
      place_owes ways (readied slot flight.value (record r { leader = without_flight_at slot r.leader }, mails)).0 ≤ place_owes ways (r, mails)
  unfolding readied
  chosen_owes slot flight r mails runs free e = by (eqb slot (next r) && has_room r) refl
    where
      after : Place
      after = (readied_at slot flight.value r, mails)

      by : (b : Bool) → (eqb slot (next r) && has_room r) ≡ b → place_owes ways (cond {A = Executed} b (executed true flight.value after) (childless after)).0 ≤ place_owes ways (r, mails)
      by true fact =
          let parts = and_parts (eqb slot (next r)) (has_room r) fact in
          let more = free flight runs parts.1 (eqb-true slot (next r) parts.0) e in
          let one = readied_owes slot flight r mails e in
          omega (arith, more, one)
      by false fact = readied_owes slot flight r mails e

  tallied_owes : (slot : ℕ) (flight : Flight Command) (set : List ℕ) (voters : Option (List ℕ)) (r : ReplicaState) (mails : List Mail) → r.running ≡ true → DecidesFreely ways slot (r, mails) → flight_at slot r.leader.flights ≡ Some flight →
      place_owes ways (vote_tallied slot (tallied slot flight.value set voters r.leader) (r, mails)).0 ≤ place_owes ways (r, mails)
  tallied_owes slot flight set voters r mails runs free e = by (is_majority set (kept_voters voters))
    where
      by : (b : Bool) → place_owes ways (vote_tallied slot (cond b (Chosen flight.value, without_flight_at slot r.leader) (NotYet (length (kept_voters voters)), record r.leader { flights = with_voters slot voters r.leader.flights })) (r, mails)).0 ≤ place_owes ways (r, mails)
      by true = chosen_owes slot flight r mails runs free e
      by false = let same = with_voters_owes ways.most slot voters r.leader.flights in omega (arith, same)

  voted_owes : (from : ℕ) (ballot : Ballot) (slot : ℕ) (set : Option (List ℕ)) (r : ReplicaState) (mails : List Mail) → r.running ≡ true → DecidesFreely ways slot (r, mails) → place_owes ways (voted from ballot slot set (r, mails)).0 ≤ place_owes ways (r, mails)
  voted_owes from ballot slot None r mails runs free = omega arith
  voted_owes from ballot slot (Some set) r mails runs free = by (same_ballot ballot r.leader.ballot) (by_flight (flight_at slot r.leader.flights) refl)
    where
      by_flight : (o : Option (Flight Command)) → flight_at slot r.leader.flights ≡ o → place_owes ways (vote_tallied slot (vote_at from slot set o r.leader) (r, mails)).0 ≤ place_owes ways (r, mails)
      by_flight None e = omega arith
      by_flight (Some flight) e = tallied_owes slot flight set (voters_after set from flight.voters) r mails runs free e

      by : (b : Bool) → place_owes ways (vote_tallied slot (vote_at from slot set (flight_at slot r.leader.flights) r.leader) (r, mails)).0 ≤ place_owes ways (r, mails) →
          place_owes ways (vote_tallied slot (cond b (vote_at from slot set (flight_at slot r.leader.flights) r.leader) (NotYet 0, r.leader)) (r, mails)).0 ≤ place_owes ways (r, mails)
      by true le = le
      by false le = omega arith

  pub accepted_lowers : (from : ℕ) (ballot : Ballot) (slot : ℕ) (place : Place) → DecidesFreely ways slot place → place_owes ways (accepted_row from ballot slot place).0 + 1 ≤ place_owes ways place + 1
  unfolding accepted_row
  accepted_lowers from ballot slot (r, mails) free = by r.running (same_ballot ballot r.leader.ballot) (λ runs. voted_owes from ballot slot (set_at slot r) r mails runs free) refl
    where
      by : (b c : Bool) → (r.running ≡ true → place_owes ways (voted from ballot slot (set_at slot r) (r, mails)).0 ≤ place_owes ways (r, mails)) → r.running ≡ b →
          place_owes ways (cond {A = Executed} (b && c) (voted from ballot slot (set_at slot r) (r, mails)) (childless (r, mails))).0 + 1 ≤ place_owes ways (r, mails) + 1
      by true true le fact = let more = le fact in omega (arith, more)
      by true false le fact = omega arith
      by false c le fact = omega arith
