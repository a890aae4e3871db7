-- Accepted at a replica that runs, and whose group is not reshaped: the vote is counted, and the slots stay taken as they should be.
use Rattle.std.proofs.Common.{◌≡◌, ℕ, ◌+◌, ◌-◌, ◌<◌, ◌≤◌, ◌&&◌, eqb, true, false, List, [], ◌∷◌, length, Option, Some, None, ◌⊎◌, inl, inr, refl, sym, ◌∙◌, ap, subst, arith}
use Rattle.std.specs.Prelude.{nat_lt, slice_get}
use Rattle.std.proofs.lemmas.Bool.{cond_both, cond-true, cond-false, cases_lt, cases_eq, eqb-true, eqb-false, eq-eqb, ne_eqb, le-ltb, lt-ltb, and_from, and_parts, both_ways}
use Rattle.sc_base.specs.Definitions.{Among, Each, same_ballot, is_majority, is_member, IsRoster}
use Rattle.sc_base.proofs.Lemmas.{ballot_itself}
use Rattle.sc_node_table.specs.Values.{Ballot, Draw, Base, Command, Free, Mail, Accepted, Flight, Counted, Chosen, NotYet}
use Rattle.sc_words.specs.paxos.PaxosDefinitions.{LeaderState, flight_at, without_flight, without_flight_at, kept_voters, voters_after, with_voters, vote_at}
use Rattle.sc_words.proofs.PaxosProofs.PaxosLemmas.{find_found, Each-among, Each-from}
use Rattle.sc_node_table.specs.NodeDefinitions.{has_room, executed, ReplicaState, Place, Executed, childless, next, set_at, last_slot, with_slot, slots_ahead, leads, readied, vote_tallied, voted, accepted_row}
use Rattle.sc_live_plain.specs.PlainDefinitions.{takers}
use Rattle.sc_live_plain.proofs.PlainLemmas.{count-cons, find_some, entries_at, out_here, out_other, with_count, one_if_most, flights_at, range_before, voted_count, vote_kept, numbered_get, closed_set, flight_stands, in_range, range_behind, one_yes, one_no, with_each}
use Rattle.sc_live_healed.specs.HealedDefinitions.{IsFixedCommand, IsFixedReplica, IsUndecided, TakesSlots, IsCarried}
use Rattle.sc_live_healed.proofs.ServingReplicas.{IsServing, IsUnderWay}
use Rattle.sc_live_healed.proofs.ReadySlots.{HasServed, executed_serves}

abbrev Flights : Type 0
Flights = List (Flight Command)

module _ (P : Flight Command → Type 0) (slot : ℕ) where
  -- the others, where one flight stands at a slot
  others_all : (f : Flight Command) (fs : Flights) → f.slot ≡ slot → flights_at slot (f ∷ fs) ≤ 1 → ((g : Flight Command) → Among g fs → (g.slot ≡ slot → ⊥) → P g) → Each P fs
  others_all f fs here most other =
      Each-from P fs (λ g a. other g a (λ at. (
      let c = count-cons (λ (y : Flight Command). eqb y.slot slot) f fs in
      let one = one_yes (eqb f.slot slot) (eq-eqb f.slot slot here) in
      let more = flight_stands slot fs g a at in
      absurd (omega (arith, c, one, more, most)))))

  -- with other voters at the slot
  voted_all : (voters : Option (List ℕ)) (fs : Flights) → flights_at slot fs ≤ 1 → ((g : Flight Command) → Among g fs → (g.slot ≡ slot → ⊥) → P g) → ((g : Flight Command) → Among g fs → g.slot ≡ slot → P (record g { voters = voters })) → Each P (with_voters slot voters fs)
  voted_all voters [] most other here = tt
  voted_all voters (f ∷ fs) most other here =
      let c = count-cons (λ (y : Flight Command). eqb y.slot slot) f fs in
      cond_both (eqb f.slot slot) ((record f { voters = voters }) ∷ fs) (f ∷ with_voters slot voters fs) (Each P)
      (λ t. (here f (inl refl) (eqb-true f.slot slot t), others_all f fs (eqb-true f.slot slot t) most (λ g a ne. other g (inr a) ne)))
      (λ n. (other f (inl refl) (eqb-false f.slot slot n), voted_all voters fs (omega (arith, c, most)) (λ g a ne. other g (inr a) ne) (λ g a at. here g (inr a) at)))

  -- without the one at the slot
  out_all : (fs : Flights) → flights_at slot fs ≤ 1 → ((g : Flight Command) → Among g fs → (g.slot ≡ slot → ⊥) → P g) → Each P (without_flight slot fs)
  out_all [] most other = tt
  out_all (f ∷ fs) most other =
      let c = count-cons (λ (y : Flight Command). eqb y.slot slot) f fs in
      cond_both (eqb f.slot slot) fs (f ∷ without_flight slot fs) (Each P)
      (λ t. others_all f fs (eqb-true f.slot slot t) most (λ g a ne. other g (inr a) ne))
      (λ n. (other f (inl refl) (eqb-false f.slot slot n), out_all fs (omega (arith, c, most)) (λ g a ne. other g (inr a) ne)))

module _ (base : Base) (free : base.core.lock ≡ Free) (stands : base.core.gone ≡ None) (roster : IsRoster base.core.members)
    (r : ReplicaState) (member : is_member base.core.members r.me ≡ true) (fixed : IsFixedReplica base r) (takes : TakesSlots base r) (on : r.running ≡ true)
    (group : Draw) (from slot : ℕ) (voter : is_member base.core.members from ≡ true) (mails : List Mail) where
  module _ (seen : Ballot) where
    abbrev pub Held : Flight Command → Type 0
    Held flight = IsCarried from (Accepted group seen slot) r.leader.ballot r.leader.flights flight

    abbrev S : ℕ → Place → Type 0
    S taken place = IsServing base r.me r.leader.ballot Held taken place

    abbrev pub E : Place → Type 0
    E place = HasServed base r.me r.leader.ballot Held place

    abbrev EAfter : Executed → Type 0
    EAfter step = E step.0

    abbrev U : Flight Command → Type 0
    U flight = IsUnderWay base r.me r.leader.ballot Held mails flight

    abbrev changed : Flights → List (ℕ × Command) → ReplicaState
    changed fs es = record r { leader = record r.leader { flights = fs }; ready = es }

    -- other flights, and other commands that are ready, at the same slots
    changed_serves : (fs : Flights) (es : List (ℕ × Command)) → Each U fs → Each (λ (e : ℕ × Command). IsFixedCommand base e.1) es → ((s : ℕ) → flights_at s fs + entries_at s es ≡ takers r s) → S takes.taken (changed fs es, mails)
    changed_serves fs es us fe same = record {
      running = on;
      me_is = refl;
      ballot_is = refl;
      core = fixed.group;
      sets = fixed.sets;
      acts = fixed.acts;
      backlog = fixed.backlog;
      flights = us;
      ready = fe;
      reports = fixed.reports;
      slots = record { most = takes.slots.most; once = λ s. same s ∙ takes.slots.once s };
      room = takes.room;
    }

    changed_served : (fs : Flights) (es : List (ℕ × Command)) → entries_at (next r) es ≡ 0 → S takes.taken (changed fs es, mails) → E (changed fs es, mails)
    changed_served fs es none k = record { taken = takes.taken; serves = k; executed = none; offered = λ t near. takes.offered t near }

    -- a flight that is kept as it was
    stays : (flight : Flight Command) → Among flight r.leader.flights → (seen ≡ r.leader.ballot → slot ≡ flight.slot → ⊥) → U flight
    stays flight a other = record {
      value = Each-among (λ (x : Flight Command). IsFixedCommand base x.value) r.leader.flights flight fixed.flights a;
      undecided = Each-among (IsUndecided base) r.leader.flights flight takes.undecided a;
      from = inl (record { earlier = flight; among = a; same_slot = refl; kept = λ node v. v; counts = λ b s. absurd (other b s) });
    }

    -- nothing is counted
    same_served : ((flight : Flight Command) → Among flight r.leader.flights → seen ≡ r.leader.ballot → slot ≡ flight.slot → ⊥) → E (r, mails)
    same_served none = changed_served r.leader.flights r.ready takes.executed
        (changed_serves r.leader.flights r.ready (Each-from U r.leader.flights (λ flight a. stays flight a (none flight a))) fixed.ready (λ s. refl))

    -- one flight stands at a slot
    one_at : (s : ℕ) → takers r s ≤ 1
    one_at s = (let once = takes.slots.once s in let most = one_if_most (in_range (next r) takes.taken s) in omega (arith, once, most))

    -- no flight stands at a slot that is not open
    closed : (slot < next r) ⊎ (next r + slots_ahead ≤ slot) → (flight : Flight Command) → Among flight r.leader.flights → seen ≡ r.leader.ballot → slot ≡ flight.slot → ⊥
    closed out flight a b at =
        let once = takes.slots.once slot in
        let most = takes.slots.most in
        let some = flight_stands slot r.leader.flights flight a (sym at) in
        elim out [
          | inl low ↦ (let none = one_no (in_range (next r) takes.taken slot) (range_before (next r) takes.taken slot low) in omega (arith, once, none, some))
          | inr high ↦ (let none = one_no (in_range (next r) takes.taken slot) (range_behind (next r) takes.taken slot (omega (arith, high, most))) in omega (arith, once, none, some))
        ]

    module _ (flight : Flight Command) (e : flight_at slot r.leader.flights ≡ Some flight) where
      at : flight.slot ≡ slot
      at = eqb-true flight.slot slot (find_found (λ (f : Flight Command). eqb f.slot slot) r.leader.flights flight e).1

      among : Among flight r.leader.flights
      among = (find_found (λ (f : Flight Command). eqb f.slot slot) r.leader.flights flight e).0

      voters : Option (List ℕ)
      voters = voters_after base.core.members from flight.voters

      was_undecided : IsUndecided base flight
      was_undecided = Each-among (IsUndecided base) r.leader.flights flight takes.undecided among

      value_fixed : IsFixedCommand base flight.value
      value_fixed = Each-among (λ (x : Flight Command). IsFixedCommand base x.value) r.leader.flights flight fixed.flights among

      few_flights : flights_at slot r.leader.flights ≤ 1
      few_flights = (let most = one_at slot in omega (arith, most))

      one_flight : 1 ≤ flights_at slot r.leader.flights
      one_flight = flight_stands slot r.leader.flights flight among at

      no_entry : entries_at slot r.ready ≡ 0
      no_entry = (let most = one_at slot in let one = one_flight in omega (arith, most, one))

      -- the vote is kept
      not_yet : is_majority base.core.members (kept_voters voters) ≡ false → E (changed (with_voters slot voters r.leader.flights) r.ready, mails)
      unfolding voters
      not_yet no_ =
          let w = was_undecided in
          let vote = vote_kept base.core.members from flight.voters roster voter w.voters w.undecided in
          let v : Option (List ℕ) = voters_after base.core.members from flight.voters in
          changed_served (with_voters slot v r.leader.flights) r.ready takes.executed
          (changed_serves (with_voters slot v r.leader.flights) r.ready
          (voted_all U slot v r.leader.flights few_flights (λ g a ne. stays g a (λ b s. ne (sym s)))
          (λ g a here. record {
            value = Each-among (λ (x : Flight Command). IsFixedCommand base x.value) r.leader.flights g fixed.flights a;
            undecided = record { voters = vote.few; undecided = no_ };
            from = inl (record {
              earlier = flight;
              among = among;
              same_slot = at ∙ sym here;
              kept = λ node h. vote.kept node h;
              counts = λ b s. vote.own;
            });
          })) fixed.ready (λ s. (let c = voted_count slot v s r.leader.flights in omega (arith, c))))

      -- the vote decides
      fs : Flights
      fs = without_flight slot r.leader.flights

      es : List (ℕ × Command)
      es = with_slot r.ready slot flight.value

      same_takers : (s : ℕ) → flights_at s fs + entries_at s es ≡ takers r s
      unfolding fs es
      same_takers s =
          let one = one_flight in
          elim (cases_eq slot s) [
            | inl here ↦ (
                let out = out_here (λ (f : Flight Command). f.slot) (λ m xs. without_flight m xs) (λ m. refl) (λ m x xs. refl) slot r.leader.flights one in
                let more = with_count slot flight.value r.ready slot no_entry in
                let yes_ = one_yes (eqb slot slot) (eq-eqb slot slot refl) in
                let at_slot_ : flights_at slot (without_flight slot r.leader.flights) + entries_at slot (with_slot r.ready slot flight.value) ≡ takers r slot = omega (arith, out, more, yes_) in
                subst (λ m. flights_at m (without_flight slot r.leader.flights) + entries_at m (with_slot r.ready slot flight.value) ≡ takers r m) here at_slot_)
            | inr past ↦ (
                let out = out_other (λ (f : Flight Command). f.slot) (λ m xs. without_flight m xs) (λ m. refl) (λ m x xs. refl) slot s r.leader.flights past in
                let more = with_count slot flight.value r.ready s no_entry in
                let no_ = one_no (eqb slot s) (ne_eqb slot s past) in
                omega (arith, out, more, no_))
          ]

      ready_serves : S takes.taken (changed fs es, mails)
      unfolding fs es same_takers
      ready_serves =
          changed_serves (without_flight slot r.leader.flights) (with_slot r.ready slot flight.value)
          (out_all U slot r.leader.flights few_flights (λ g a ne. stays g a (λ b s. ne (sym s))))
          (with_each slot flight.value (λ (x : ℕ × Command). IsFixedCommand base x.1) r.ready value_fixed fixed.ready) same_takers

      chosen : EAfter (readied slot flight.value (record r { leader = without_flight_at slot r.leader }, mails))
      unfolding readied fs es ready_serves
      chosen =
          let after : ReplicaState = changed fs es in
          let many = ap length fixed.sets in
          cond_both (eqb slot (next r) && has_room after) (executed true flight.value (after, mails)) (childless (after, mails)) EAfter
          (λ t. executed_serves base r.me r.leader.ballot Held free stands member takes.taken true flight.value after mails value_fixed ready_serves)
          (λ n. (
          let past : slot ≡ next r → ⊥ = λ here. (
          let low : next r < last_slot + length r.sets = elim (cases_lt (next r) (last_slot + length r.sets)) [
            | inl low ↦ low
            | inr high ↦ (
                let once = takes.slots.once (next r) in
                let one = one_flight in
                let here_ : flights_at slot r.leader.flights ≡ flights_at (next r) r.leader.flights = ap (λ m. flights_at m r.leader.flights) here in
                let none : takes.taken ≡ 0 = elim (takes.room) [ inl none ↦ none | inr low ↦ omega (arith, low, high, many) ] in
                let out = one_no (in_range (next r) takes.taken (next r)) (range_behind (next r) takes.taken (next r) (omega (arith, none))) in
                absurd (omega (arith, once, out, one, here_)))
          ] in
          both_ways (eqb slot (next r) && has_room after) n (and_from (eqb slot (next r)) (has_room after) (eq-eqb slot (next r) here) (lt-ltb (next r) (last_slot + length r.sets) low))) in
          let was = takes.executed in
          let more = with_count slot flight.value r.ready (next r) no_entry in
          let no_ = one_no (eqb slot (next r)) (ne_eqb slot (next r) past) in
          changed_served (without_flight slot r.leader.flights) (with_slot r.ready slot flight.value) (omega (arith, was, more, no_)) ready_serves))

    vote_served : (o : Option (Flight Command)) → flight_at slot r.leader.flights ≡ o → EAfter (vote_tallied slot (vote_at from slot base.core.members o r.leader) (r, mails))
    unfolding voters
    vote_served None e = same_served (λ flight a b s. (let some = find_some (λ (f : Flight Command). eqb f.slot slot) r.leader.flights (flight_stands slot r.leader.flights flight a (sym s)) in cc (some.1, e)))
    vote_served (Some flight) e =
        let v : Option (List ℕ) = voters_after base.core.members from flight.voters in
        cond_both (is_majority base.core.members (kept_voters v)) (Chosen flight.value, without_flight_at slot r.leader) (NotYet (length (kept_voters v)), record r.leader { flights = with_voters slot v r.leader.flights })
        (λ (x : Counted Command × LeaderState Command). EAfter (vote_tallied slot x (r, mails))) (λ t. chosen flight e) (λ f. not_yet flight e f)

    voted_open : next r ≤ slot → slot < next r + slots_ahead → set_at slot r ≡ Some base.core.members
    voted_open low high =
        cond-false (nat_lt slot (next r)) None (slice_get r.sets (slot - next r)) (le-ltb slot (next r) low)
        ∙ ap (λ (l : List (List ℕ)). slice_get l (slot - next r)) fixed.sets ∙ numbered_get (λ n. base.core.members) slots_ahead (next r) (slot - next r) (omega (arith, low, high))

    counted_out : (slot < next r) ⊎ (next r + slots_ahead ≤ slot) → EAfter (voted from seen slot (set_at slot r) (r, mails))
    counted_out out = subst (λ (o : Option (List ℕ)). EAfter (voted from seen slot o (r, mails))) (sym (closed_set (λ n. base.core.members) slot r fixed.sets out)) (same_served (closed out))

    counted_in : same_ballot seen r.leader.ballot ≡ true → next r ≤ slot → slot < next r + slots_ahead → EAfter (voted from seen slot (set_at slot r) (r, mails))
    counted_in b low high =
        subst (λ (o : Option (List ℕ)). EAfter (voted from seen slot o (r, mails))) (sym (voted_open low high))
        (subst (λ (x : Counted Command × LeaderState Command). EAfter (vote_tallied slot x (r, mails)))
        (sym (cond-true (same_ballot seen r.leader.ballot) (vote_at from slot base.core.members (flight_at slot r.leader.flights) r.leader) (NotYet 0, r.leader) b))
        (vote_served (flight_at slot r.leader.flights) refl))

    -- the vote is counted, if it is one for what is in flight
    pub accepted_serves : E (accepted_row from seen slot (r, mails)).0
    unfolding accepted_row
    accepted_serves =
        cond_both (leads seen r) (voted from seen slot (set_at slot r) (r, mails)) (childless (r, mails)) EAfter
        (λ t. (
        let b = (and_parts r.running (same_ballot seen r.leader.ballot) t).1 in
        elim (cases_lt slot (next r)) [
          | inl low ↦ counted_out (inl low)
          | inr up ↦ elim (cases_lt slot (next r + slots_ahead)) [ inl high ↦ counted_in b up high | inr past ↦ counted_out (inr past) ]
        ]))
        (λ n. same_served (λ flight a b s. both_ways (leads seen r) n (and_from r.running (same_ballot seen r.leader.ballot) on (ap (λ x. same_ballot x r.leader.ballot) b ∙ ballot_itself r.leader.ballot))))
