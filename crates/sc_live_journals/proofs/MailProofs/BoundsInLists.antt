-- Lists of slots and rounds that are few stay so with one more, one less, or a later bound.
use Rattle.std.proofs.Common.{◌≡◌, ℕ, ◌≤◌, nat_lt, eqb, Bool, true, false, cond, List, [], ◌∷◌, length, filter, Option, Some, None, refl, arith}
use Rattle.std.proofs.lemmas.Bool.{eqb-true}
use Rattle.sc_base.specs.Definitions.{Each, is_majority, same_ballot}
use Rattle.sc_node_table.specs.Values.{Command, Ballot, Counted, Chosen, NotYet, Flight, Report}
use Rattle.sc_words.specs.paxos.PaxosDefinitions.{with_report, LeaderState, flight_at, without_flight, without_flight_at, counted, vote_at, with_voters, voters_after, kept_voters}
use Rattle.sc_words.proofs.PaxosProofs.PaxosLemmas.{Each-append, Each-filter}
use Rattle.sc_node_table.specs.NodeDefinitions.{at_slot, with_slot, without_slot}
use Rattle.sc_law_walks.proofs.WalkLemmas.{either_way}

-- flights and entries at slots not above `most`
abbrev pub FlyTo : ℕ → List (Flight Command) → Type 0
FlyTo most flights = Each (λ (flight : Flight Command). flight.slot ≤ most) flights

abbrev pub WaitTo : ℕ → List (ℕ × Command) → Type 0
WaitTo most entries = Each (λ (entry : ℕ × Command). entry.0 ≤ most) entries

pub flights_less : (most slot : ℕ) (flights : List (Flight Command)) → FlyTo most flights → FlyTo most (without_flight slot flights)
flights_less most slot [] k = tt
flights_less most slot (flight ∷ flights) k = either_way (FlyTo most) (eqb flight.slot slot) flights (flight ∷ without_flight slot flights) k.1 (k.0, flights_less most slot flights k.1)

flights_voted : (most slot : ℕ) (voters : Option (List ℕ)) (flights : List (Flight Command)) → FlyTo most flights → FlyTo most (with_voters slot voters flights)
flights_voted most slot voters [] k = tt
flights_voted most slot voters (flight ∷ flights) k =
    either_way (FlyTo most) (eqb flight.slot slot) (record flight { voters = voters } ∷ flights) (flight ∷ with_voters slot voters flights) k (k.0, flights_voted most slot voters flights k.1)

-- a vote leaves a leader its ballot and its reports, and no more in flight
module _ (most : ℕ) (leader : LeaderState Command) where
  abbrev pub IsVoted : Counted Command × LeaderState Command → Type 0
  IsVoted p = (p.1.ballot ≡ leader.ballot) × (p.1.reports ≡ leader.reports) × FlyTo most p.1.flights

  vote_few : (from slot : ℕ) (set : List ℕ) (o : Option (Flight Command)) → FlyTo most leader.flights → IsVoted (vote_at from slot set o leader)
  vote_few from slot set None k = (refl, refl, k)
  vote_few from slot set (Some flight) k =
      let voters : Option (List ℕ) = voters_after set from flight.voters in
      either_way IsVoted (is_majority set (kept_voters voters)) (Chosen flight.value, without_flight_at slot leader) (NotYet (length (kept_voters voters)), record leader { flights = with_voters slot voters leader.flights })
      (refl, refl, flights_less most slot leader.flights k) (refl, refl, flights_voted most slot voters leader.flights k)

  pub votes_few : (from : ℕ) (ballot : Ballot) (slot : ℕ) (set : List ℕ) → FlyTo most leader.flights → IsVoted (counted from ballot slot set leader)
  votes_few from ballot slot set k =
      either_way IsVoted (same_ballot ballot leader.ballot) (vote_at from slot set (flight_at slot leader.flights) leader) (NotYet 0, leader) (vote_few from slot set (flight_at slot leader.flights) k) (refl, refl, k)

pub entries_less : (most slot : ℕ) (entries : List (ℕ × Command)) → WaitTo most entries → WaitTo most (without_slot entries slot)
entries_less most slot [] k = tt
entries_less most slot (entry ∷ entries) k = either_way (WaitTo most) (eqb entry.0 slot) entries (entry ∷ without_slot entries slot) k.1 (k.0, entries_less most slot entries k.1)

pub entries_more : (most slot : ℕ) (command : Command) (entries : List (ℕ × Command)) → slot ≤ most → WaitTo most entries → WaitTo most (with_slot entries slot command)
entries_more most slot command [] q k = (q, tt)
entries_more most slot command (entry ∷ entries) q k =
    either_way (WaitTo most) (eqb entry.0 slot) ((slot, command) ∷ entries) _ (q, k.1)
    (either_way (WaitTo most) (nat_lt slot entry.0) ((slot, command) ∷ entry ∷ entries) (entry ∷ with_slot entries slot command) (q, k) (k.0, entries_more most slot command entries q k.1))

-- what is found at a slot is at no greater one
pub found_low : (most slot : ℕ) (command : Command) (entries : List (ℕ × Command)) → at_slot entries slot ≡ Some command → WaitTo most entries → slot ≤ most
found_low most slot command [] e k = cc
found_low most slot command (entry ∷ entries) e k = by (eqb entry.0 slot) refl e (λ later. found_low most slot command entries later k.1)
  where
    by : (b : Bool) → eqb entry.0 slot ≡ b → cond b (Some entry.1) (at_slot entries slot) ≡ Some command → (at_slot entries slot ≡ Some command → slot ≤ most) → slot ≤ most
    by true t e2 more = (let same = eqb-true entry.0 slot t in let low = k.0 in omega (arith, same, low))
    by false f e2 more = more e2

pub reports_more : (P : Report Command → Type 0) (new : Report Command) (accepted : List (Report Command)) → P new → Each P accepted → Each P (with_report new accepted)
reports_more P new accepted q k =
    Each-append P (filter (λ report. nat_lt report.slot new.slot) accepted) (new ∷ filter (λ report. nat_lt new.slot report.slot) accepted) (Each-filter P (λ report. nat_lt report.slot new.slot) accepted k)
    (q, Each-filter P (λ report. nat_lt new.slot report.slot) accepted k)
