-- How a leader counts votes (Paxos Made Simple, section 2.3).
use Rattle.std.specs.Prelude.{ℕ, Bool, ◌==◌, ◌||◌, List, [], ◌∷◌, length, Option, Some, None, if◌then◌else◌}
use Rattle.sc_base.specs.declared.names.Ballot.{Ballot}
use Rattle.sc_base.specs.Definitions.{is_member, with_member, is_majority, same_ballot}
use Rattle.sc_words.specs.declared.paxos.flights.Flight.{Flight}
use Rattle.sc_words.specs.declared.paxos.answers.Counted.{Counted}
use Rattle.sc_words.specs.declared.paxos.answers.Counted.TheVariants.{Chosen, NotYet}
use Rattle.sc_words.specs.paxos.Leaders.{LeaderState, flight_at, without_flight_at}

-- the nodes whose votes are kept, as a list
abbrev pub kept_voters : Option (List ℕ) → List ℕ
kept_voters None = []
kept_voters (Some voters) = voters

-- the kept voters with one more, if it is not there; at most nine are kept, which is enough for a majority of nine members
abbrev pub add_voter : ℕ → Option (List ℕ) → Option (List ℕ)
add_voter node None = Some (node ∷ [])
add_voter node (Some voters) = if is_member voters node || length voters == 9 then Some voters else Some (with_member voters node)

-- the kept voters after a vote: that of a member is kept, once; that of another node is not
abbrev pub voters_after : List ℕ → ℕ → Option (List ℕ) → Option (List ℕ)
voters_after members node voters = if is_member members node then add_voter node voters else voters

-- the proposals in flight, with other voters at a slot
abbrev pub with_voters : {V : Type 0} → ℕ → Option (List ℕ) → List (Flight V) → List (Flight V)
with_voters slot voters [] = []
with_voters slot voters (flight ∷ flights) = if flight.slot == slot then record flight { voters = voters } ∷ flights else flight ∷ with_voters slot voters flights

-- the kept voters of a proposal in flight
abbrev pub voters_at : {V : Type 0} → Option (Flight V) → List ℕ
voters_at None = []
voters_at (Some flight) = kept_voters flight.voters

-- whether a node's vote was counted for the proposal in flight at a slot
abbrev pub has_counted : {V : Type 0} → ℕ → ℕ → LeaderState V → Bool
has_counted slot node leader = is_member (voters_at (flight_at slot leader.flights)) node

-- the answer with these votes: the value is chosen and no longer in flight where they are a majority of the members, and else they are kept
abbrev pub tallied : {V : Type 0} → ℕ → V → List ℕ → Option (List ℕ) → LeaderState V → Counted V × LeaderState V
tallied slot value members voters leader =
    if is_majority members (kept_voters voters) then (Chosen value, without_flight_at slot leader)
    else (NotYet (length (kept_voters voters)), record leader { flights = with_voters slot voters leader.flights })

-- the answer to a vote for the proposal in flight at a slot, if there is one
abbrev pub vote_at : {V : Type 0} → ℕ → ℕ → List ℕ → Option (Flight V) → LeaderState V → Counted V × LeaderState V
vote_at node slot members None leader = (NotYet 0, leader)
vote_at node slot members (Some flight) leader = tallied slot flight.value members (voters_after members node flight.voters) leader

-- the answer to a vote in a ballot: only a vote in the leader's ballot counts
abbrev pub counted : {V : Type 0} → ℕ → Ballot → ℕ → List ℕ → LeaderState V → Counted V × LeaderState V
counted node ballot slot members leader =
    if same_ballot ballot leader.ballot then vote_at node slot members (flight_at slot leader.flights) leader
    else (NotYet 0, leader)
