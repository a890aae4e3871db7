-- How a vote is counted, case by case.
use Rattle.std.proofs.Common.{◌≡◌, ℕ, true, false, List, length, Option, Some, None, refl, sym, ◌∙◌, ap}
use Rattle.std.specs.Option.{option_map}
use Rattle.std.proofs.lemmas.Bool.{cond-true, cond-false}
use Rattle.sc_base.specs.declared.names.Ballot.{Ballot}
use Rattle.sc_base.specs.Definitions.{is_majority, same_ballot}
use Rattle.sc_words.specs.declared.paxos.flights.Flight.{Flight}
use Rattle.sc_words.specs.declared.paxos.answers.Counted.{Counted}
use Rattle.sc_words.specs.declared.paxos.answers.Counted.TheVariants.{Chosen, NotYet}
use Rattle.sc_base.proofs.Lemmas.{ballot_itself}
use Rattle.sc_words.specs.paxos.PaxosDefinitions.{LeaderState, flight_at, without_flight_at, without_flight, kept_voters, voters_after, with_voters, tallied, vote_at, counted}

-- the flight whose voters were found
pub in_flight : {V : Type 0} (o : Option (Flight V)) (kept : Option (List ℕ)) → option_map (λ (f : Flight V). f.voters) o ≡ Some kept → (f : Flight V) × (o ≡ Some f) × (f.voters ≡ kept)
in_flight None kept e = cc
in_flight (Some f) kept e = (f, refl, cc)

-- a vote in the leader's ballot for what is in flight is tallied
is_tallied : {V : Type 0} (node : ℕ) (ballot : Ballot) (slot : ℕ) (members : List ℕ) (leader : LeaderState V) (f : Flight V) (kept : Option (List ℕ))
    → ballot ≡ leader.ballot → flight_at slot leader.flights ≡ Some f → f.voters ≡ kept
    → counted node ballot slot members leader ≡ tallied slot f.value members (voters_after members node kept) leader
is_tallied {V} node ballot slot members leader f kept same there voters =
    cond-true (same_ballot ballot leader.ballot) (vote_at node slot members (flight_at slot leader.flights) leader) (NotYet 0, leader)
    (ap (λ b. same_ballot b leader.ballot) same ∙ ballot_itself leader.ballot)
    ∙ ap (λ o. vote_at node slot members o leader) there
    ∙ ap (λ (vs : Option (List ℕ)). tallied slot f.value members (voters_after members node vs) leader) voters

-- no majority yet
pub not_yet : {V : Type 0} (slot : ℕ) (value : V) (members : List ℕ) (voters : Option (List ℕ)) (leader : LeaderState V) (count : ℕ) (flights : List (Flight V))
    → is_majority members (kept_voters voters) ≡ false → count ≡ length (kept_voters voters) → flights ≡ with_voters slot voters leader.flights
    → tallied slot value members voters leader ≡ (NotYet count, record leader { flights = flights })
not_yet {V} slot value members voters leader count flights f same kept =
    cond-false (is_majority members (kept_voters voters)) (Chosen value, without_flight_at slot leader) (NotYet (length (kept_voters voters)), record leader { flights = with_voters slot voters leader.flights }) f
    ∙ ap (λ (n : ℕ). (let r : Counted V × LeaderState V = (NotYet n, record leader { flights = with_voters slot voters leader.flights }) in r)) (sym same)
    ∙ ap (λ (fs : List (Flight V)). (let r : Counted V × LeaderState V = (NotYet count, record leader { flights = fs }) in r)) (sym kept)

-- a majority
pub is_chosen : {V : Type 0} (slot : ℕ) (value : V) (members : List ℕ) (voters : Option (List ℕ)) (leader : LeaderState V) (flights : List (Flight V))
    → is_majority members (kept_voters voters) ≡ true → flights ≡ without_flight slot leader.flights
    → tallied slot value members voters leader ≡ (Chosen value, record leader { flights = flights })
is_chosen {V} slot value members voters leader flights t gone =
    cond-true (is_majority members (kept_voters voters)) (Chosen value, without_flight_at slot leader) (NotYet (length (kept_voters voters)), record leader { flights = with_voters slot voters leader.flights }) t
    ∙ ap (λ (fs : List (Flight V)). (let r : Counted V × LeaderState V = (Chosen value, record leader { flights = fs }) in r)) (sym gone)

-- a vote that makes no majority, from what was found on the way
pub no_majority : {V : Type 0} (node : ℕ) (ballot : Ballot) (slot : ℕ) (members : List ℕ) (leader : LeaderState V) (kept voters : Option (List ℕ)) (count : ℕ) (flights : List (Flight V))
    → ballot ≡ leader.ballot → option_map (λ (f : Flight V). f.voters) (flight_at slot leader.flights) ≡ Some kept → voters ≡ voters_after members node kept
    → is_majority members (kept_voters voters) ≡ false → count ≡ length (kept_voters voters) → flights ≡ with_voters slot voters leader.flights
    → counted node ballot slot members leader ≡ (NotYet count, record leader { flights = flights })
no_majority {V} node ballot slot members leader kept voters count flights same found after f number written =
    let there = in_flight (flight_at slot leader.flights) kept found in
    is_tallied node ballot slot members leader there.0 kept same there.1 there.2
    ∙ ap (λ (vs : Option (List ℕ)). tallied slot there.0.value members vs leader) (sym after)
    ∙ not_yet slot there.0.value members voters leader count flights f number written

-- a vote that makes one
pub majority : {V : Type 0} (node : ℕ) (ballot : Ballot) (slot : ℕ) (members : List ℕ) (leader : LeaderState V) (kept voters : Option (List ℕ)) (taken : Flight V) (flights : List (Flight V))
    → ballot ≡ leader.ballot → option_map (λ (f : Flight V). f.voters) (flight_at slot leader.flights) ≡ Some kept → voters ≡ voters_after members node kept
    → is_majority members (kept_voters voters) ≡ true → Some taken ≡ flight_at slot leader.flights → flights ≡ without_flight slot leader.flights
    → counted node ballot slot members leader ≡ (Chosen taken.value, record leader { flights = flights })
majority {V} node ballot slot members leader kept voters taken flights same found after t there gone =
    let k : (taken.voters ≡ kept) = same_voters taken kept (ap (option_map (λ (f : Flight V). f.voters)) there ∙ found) in
    is_tallied node ballot slot members leader taken kept same (sym there) k
    ∙ ap (λ (vs : Option (List ℕ)). tallied slot taken.value members vs leader) (sym after)
    ∙ is_chosen slot taken.value members voters leader flights t gone
  where
    same_voters : (f : Flight V) (vs : Option (List ℕ)) → Some f.voters ≡ Some vs → f.voters ≡ vs
    same_voters f vs e = cc

-- where voters were found something is in flight
pub something : {V : Type 0} (slot : ℕ) (flights : List (Flight V)) (kept : Option (List ℕ)) → option_map (λ (f : Flight V). f.voters) (flight_at slot flights) ≡ Some kept → None ≡ flight_at slot flights → ⊥
something {V} slot flights kept found none = (let e : None ≡ Some kept = ap (option_map (λ (f : Flight V). f.voters)) none ∙ found in cc)
