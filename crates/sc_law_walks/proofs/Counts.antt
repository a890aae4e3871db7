-- What a leader counts leaves its ballot, and a promise what it has in flight.
use Rattle.std.proofs.Common.{◌≡◌, ℕ, ◌&&◌, not, Bool, List, Option, Some, None, refl}
use Rattle.sc_base.specs.Definitions.{same_ballot, is_member, is_majority}
use Rattle.sc_node_table.specs.Values.{Ballot, Command, Counted, Flight, Report}
use Rattle.sc_words.specs.paxos.PaxosDefinitions.{LeaderState, promise_counted, flight_at, counted, vote_at, voters_after, kept_voters}
use Rattle.sc_law_walks.proofs.Ways.{either_way}

pub promise_ballot : (from : ℕ) (ballot : Ballot) (reports : List (Report Command)) (l : LeaderState Command) → (promise_counted from ballot reports l).1.ballot ≡ l.ballot
promise_ballot from ballot reports l = either_way (λ (x : Bool × LeaderState Command). x.1.ballot ≡ l.ballot) (same_ballot ballot l.ballot && not (is_member l.promisers from)) _ _ refl refl

pub promise_flights : (from : ℕ) (ballot : Ballot) (reports : List (Report Command)) (l : LeaderState Command) → (promise_counted from ballot reports l).1.flights ≡ l.flights
promise_flights from ballot reports l = either_way (λ (x : Bool × LeaderState Command). x.1.flights ≡ l.flights) (same_ballot ballot l.ballot && not (is_member l.promisers from)) _ _ refl refl

vote_ballot : (from slot : ℕ) (set : List ℕ) (o : Option (Flight Command)) (l : LeaderState Command) → (vote_at from slot set o l).1.ballot ≡ l.ballot
vote_ballot from slot set None l = refl
vote_ballot from slot set (Some flight) l = either_way (λ (x : Counted Command × LeaderState Command). x.1.ballot ≡ l.ballot) (is_majority set (kept_voters (voters_after set from flight.voters))) _ _ refl refl

pub counted_ballot : (from : ℕ) (ballot : Ballot) (slot : ℕ) (set : List ℕ) (l : LeaderState Command) → (counted from ballot slot set l).1.ballot ≡ l.ballot
counted_ballot from ballot slot set l = either_way (λ (x : Counted Command × LeaderState Command). x.1.ballot ≡ l.ballot) (same_ballot ballot l.ballot) _ _ (vote_ballot from slot set (flight_at slot l.flights) l) refl
