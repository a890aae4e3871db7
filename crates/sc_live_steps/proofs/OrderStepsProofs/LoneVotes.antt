-- A leader counts a vote for the one command that is in flight.
use Rattle.std.proofs.Common.{◌≡◌, ℕ, ◌&&◌, eqb, Bool, true, false, cond, List, [], ◌∷◌, ◌++◌, length, Option, Some, None, ◌⊎◌, inl, inr, refl, sym, ◌∙◌, ap, subst, append-nil}
use Rattle.std.proofs.lemmas.Bool.{eqb-true, eq-eqb}
use Rattle.sc_base.specs.Definitions.{same_ballot, is_majority}
use Rattle.sc_node_table.specs.Values.{Ballot, Draw, Command, Accepted, Counted, Chosen, NotYet, Flight}
use Rattle.sc_words.specs.paxos.PaxosDefinitions.{LeaderState, flight_at, without_flight, without_flight_at, kept_voters, voters_after, with_voters, tallied, vote_at, counted}
use Rattle.sc_node_table.specs.NodeDefinitions.{has_room, executed, ReplicaState, Executed, childless, next, set_at, listed, mailed, with_slot, leads, readied, vote_tallied, voted, accepted_row}
use Rattle.sc_live_steps.specs.orders.OrderDefinitions.{work_by, works_in, works_flying, works_ready, works, Works, IsLone, FliesLone, Decides, VotesCountAlone}

works_voters : (slot : ℕ) (voters : Option (List ℕ)) (flights : List (Flight Command)) → works_flying (with_voters slot voters flights) ≡ works_flying flights
works_voters slot voters [] = refl
works_voters slot voters (flight ∷ flights) = by (eqb flight.slot slot) (works_voters slot voters flights)
  where
    by : (b : Bool) → works_flying (with_voters slot voters flights) ≡ works_flying flights → works_flying (cond b (record flight { voters = voters } ∷ flights) (flight ∷ with_voters slot voters flights)) ≡ works_flying (flight ∷ flights)
    by true e = refl
    by false e = ap (λ l. listed (work_by flight.value) ++ l) e

module _ (from slot : ℕ) (ballot : Ballot) (flight : Flight Command) (r : ReplicaState) (lone : FliesLone flight r) where
  abbrev Goal : Executed → Type 0
  Goal step = Works (works r) [] r step.0 ⊎ Decides flight r step.0

  stays : (leader : LeaderState Command) → works_flying leader.flights ≡ works_flying r.leader.flights → Goal (childless (record r { leader = leader }, []))
  stays leader e = inl (record { group = refl; me = refl; running = refl; work = ap (λ l. works_in r.acts ++ (works_in r.backlog ++ (l ++ works_ready r.ready))) e; sends = (tt, λ name none. refl) })

  -- the command in flight was chosen
  abbrev chosen_at : ReplicaState
  chosen_at = record r { leader = without_flight_at slot r.leader; ready = with_slot r.ready slot flight.value }

  module _ (there : flight.slot ≡ slot) where
    none_flies : without_flight slot r.leader.flights ≡ []
    none_flies = ap (without_flight slot) lone.flights ∙ ap (λ b. cond b [] (flight ∷ [])) (eq-eqb flight.slot slot there)

    one_ready : with_slot r.ready slot flight.value ≡ (slot, flight.value) ∷ []
    one_ready = ap (λ l. with_slot l slot flight.value) lone.ready

    chosen_work : works chosen_at ≡ works r
    chosen_work =
        ap (λ l. works_in r.acts ++ (works_in r.backlog ++ (works_flying l ++ works_ready (with_slot r.ready slot flight.value)))) none_flies
        ∙ (ap (λ l. works_in r.acts ++ (works_in r.backlog ++ works_ready l)) one_ready
        ∙ (ap (λ l. works_in r.acts ++ (works_in r.backlog ++ l)) (sym (append-nil (listed (work_by flight.value) ++ [])))
        ∙ (ap (λ l. works_in r.acts ++ (works_in r.backlog ++ (works_flying (flight ∷ []) ++ works_ready l))) (sym lone.ready) ∙ ap (λ l. works_in r.acts ++ (works_in r.backlog ++ (works_flying l ++ works_ready r.ready))) (sym lone.flights))))

    chosen_lone : IsLone flight.value chosen_at
    chosen_lone = record { running = lone.running; unbound = lone.unbound; ready = one_ready ∙ ap (λ x. (x, flight.value) ∷ []) (sym there ∙ lone.here); flights = none_flies; acts = lone.acts; backlog = lone.backlog }

    chosen_goes : Goal (readied slot flight.value (record r { leader = without_flight_at slot r.leader }, []))
    unfolding readied
    chosen_goes = by (eqb slot (next r) && has_room chosen_at)
      where
        by : (b : Bool) → Goal (cond b (executed true flight.value (chosen_at, [])) (childless (chosen_at, [])))
        by true = inr (record { readied = chosen_at; lone = chosen_lone; group = refl; me = refl; fact = refl })
        by false = inl (record { group = refl; me = refl; running = refl; work = chosen_work; sends = (tt, λ name none. refl) })

  one_of : (f : Flight Command) (b : Bool) → eqb flight.slot slot ≡ b → cond b (Some flight) None ≡ Some f → (flight ≡ f) × (flight.slot ≡ slot)
  one_of f true t e = (cc, eqb-true flight.slot slot t)
  one_of f false t e = absurd cc

  tallied_goes : (set : List ℕ) (voters : Option (List ℕ)) → flight.slot ≡ slot → Goal (vote_tallied slot (tallied slot flight.value set voters r.leader) (r, []))
  tallied_goes set voters there = by (is_majority set (kept_voters voters))
    where
      by : (b : Bool) → Goal (vote_tallied slot (cond {A = Counted Command × LeaderState Command} b (Chosen flight.value, without_flight_at slot r.leader) (NotYet (length (kept_voters voters)), record r.leader { flights = with_voters slot voters r.leader.flights })) (r, []))
      by true = chosen_goes there
      by false = stays (record r.leader { flights = with_voters slot voters r.leader.flights }) (works_voters slot voters r.leader.flights)

  at_goes : (set : List ℕ) (o : Option (Flight Command)) → flight_at slot r.leader.flights ≡ o → Goal (vote_tallied slot (vote_at from slot set o r.leader) (r, []))
  at_goes set None e = stays r.leader refl
  at_goes set (Some f) e =
      (let one = one_of f (eqb flight.slot slot) refl (sym (ap (flight_at slot) lone.flights) ∙ e) in
      subst (λ (x : Flight Command). Goal (vote_tallied slot (tallied slot x.value set (voters_after set from x.voters) r.leader) (r, []))) one.0 (tallied_goes set (voters_after set from flight.voters) one.1))

  counted_goes : (set : List ℕ) → Goal (vote_tallied slot (counted from ballot slot set r.leader) (r, []))
  counted_goes set = by (same_ballot ballot r.leader.ballot)
    where
      by : (b : Bool) → Goal (vote_tallied slot (cond b (vote_at from slot set (flight_at slot r.leader.flights) r.leader) (NotYet 0, r.leader)) (r, []))
      by true = at_goes set (flight_at slot r.leader.flights) refl
      by false = stays r.leader refl

  voted_goes : (o : Option (List ℕ)) → Goal (voted from ballot slot o (r, []))
  voted_goes None = stays r.leader refl
  voted_goes (Some set) = counted_goes set

  pub counts-alone : (group : Draw) → Goal (mailed from (Accepted group ballot slot) (r, []))
  unfolding mailed accepted_row
  counts-alone group = by (leads ballot r)
    where
      by : (b : Bool) → Goal (cond b (voted from ballot slot (set_at slot r) (r, [])) (childless (r, [])))
      by true = voted_goes (set_at slot r)
      by false = stays r.leader refl

-- A vote for the one command that a leader has in flight leaves it there, or decides it: then it is executed alone.
pub votes-count-alone : VotesCountAlone
votes-count-alone from group ballot slot flight r lone = counts-alone from slot ballot flight r lone group
