-- What a leader has in flight.
use Rattle.std.specs.Prelude.{◌≢◌, List, [], ◌∷◌}
use Rattle.sc_words.specs.declared.paxos.flights.Flight.{Flight}
use Rattle.sc_base.specs.Definitions.{Each}

-- there is at most one proposal in flight for each slot
abbrev pub IsOneEach : {V : Type 0} → List (Flight V) → Type 0
IsOneEach [] = Unit {0}
IsOneEach (flight ∷ flights) = Each (λ other. other.slot ≢ flight.slot) flights × IsOneEach flights
