-- What a leader holds, when it may propose, and what (Paxos Made Simple, sections 2.2 and 3).
use Rattle.std.specs.Prelude.{◌≡◌, ℕ, Bool, true, false, ◌==◌, ◌&&◌, ◌||◌, not, List, [], ◌∷◌, ◌++◌, Option, Some, None, find, if◌then◌else◌}
use Rattle.sc_base.specs.declared.names.Ballot.{Ballot}
use Rattle.sc_base.specs.Definitions.{is_member, is_majority, same_ballot}
use Rattle.sc_words.specs.declared.paxos.reports.Report.{Report}
use Rattle.sc_words.specs.declared.paxos.flights.Flight.{Flight}
use Rattle.sc_words.specs.declared.paxos.answers.Must.{Must}
use Rattle.sc_words.specs.declared.paxos.answers.Must.TheVariants.{Value, Gap, Free}
use Rattle.sc_words.specs.paxos.Ballots.{below}
use Rattle.sc_words.specs.paxos.Choice.{chosen_value, names_above}

-- the state of a leader: its ballot, whether that is the group's first, the next slot when it was elected, the nodes that promised it, their reports in the order in which they were counted, and the proposals in flight
pub record LeaderState (V : Type 0) : Type 0 where
  pub ballot : Ballot
  pub is_first : Bool
  pub from : ℕ
  pub promisers : List ℕ
  pub reports : List (Report V)
  pub flights : List (Flight V)

-- the leader of the group's first ballot, which needs no promises
abbrev pub first_leader : {V : Type 0} → Ballot → LeaderState V
first_leader ballot = record { ballot = ballot; is_first = true; from = 1; promisers = []; reports = []; flights = [] }

-- a leader of another ballot, elected when `from` was the next slot
abbrev pub new_leader : {V : Type 0} → Ballot → ℕ → LeaderState V
new_leader ballot from = record { ballot = ballot; is_first = false; from = from; promisers = []; reports = []; flights = [] }

-- a promise of the leader's ballot is counted once for each node, and no other promise is; with whether it was counted
abbrev pub promise_counted : {V : Type 0} → ℕ → Ballot → List (Report V) → LeaderState V → Bool × LeaderState V
promise_counted node ballot reports leader =
    if same_ballot ballot leader.ballot && not (is_member leader.promisers node)
    then (true, record leader { promisers = leader.promisers ++ node ∷ []; reports = leader.reports ++ reports })
    else (false, leader)

-- whether a leader may propose: its ballot is not below its own acceptor's promise, and it is the group's first, or a majority of the next slot's members has promised it
abbrev pub is_settled : {V : Type 0} → Ballot → List ℕ → LeaderState V → Bool
is_settled promised members leader = not (below leader.ballot promised) && (leader.is_first || is_majority members leader.promisers)

-- what must be proposed where this value was reported, if any was; `above` says whether a greater slot was reported
abbrev pub must_without : Bool → {V : Type 0} → Option V → Must V
must_without above (Some value) = Value value
must_without above None = if above then Gap else Free

-- what a leader must propose at a slot: the value chosen from the reports, or else a command that changes nothing where a greater slot was reported
abbrev pub must : {V : Type 0} → ℕ → LeaderState V → Must V
must slot leader = must_without (names_above slot leader.reports) (chosen_value slot leader.reports)

-- the value is the one that must be proposed, where there is one
abbrev pub Obeys : {V : Type 0} → Must V → V → Type 0
Obeys (Value found) value = value ≡ found
Obeys Gap value = Unit {0}
Obeys Free value = Unit {0}

-- the proposal in flight at a slot, if there is one
abbrev pub flight_at : {V : Type 0} → ℕ → List (Flight V) → Option (Flight V)
flight_at slot flights = find (λ flight. flight.slot == slot) flights

-- the leader with a further proposal in flight, which has no votes
abbrev pub with_flight_at : {V : Type 0} → ℕ → V → LeaderState V → LeaderState V
with_flight_at slot value leader = record leader { flights = leader.flights ++ (record { slot = slot; value = value; voters = None }) ∷ [] }

-- the proposals in flight without the first one at a slot
abbrev pub without_flight : {V : Type 0} → ℕ → List (Flight V) → List (Flight V)
without_flight slot [] = []
without_flight slot (flight ∷ flights) = if flight.slot == slot then flights else flight ∷ without_flight slot flights

-- the leader without the proposal at a slot
abbrev pub without_flight_at : {V : Type 0} → ℕ → LeaderState V → LeaderState V
without_flight_at slot leader = record leader { flights = without_flight slot leader.flights }
