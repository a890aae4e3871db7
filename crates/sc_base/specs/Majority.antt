-- Majorities of a set of nodes (Paxos Made Simple, section 2.2).
use Rattle.std.specs.Prelude.{ℕ, ◌*◌, ◌<◌, Bool, nat_lt, List, length, count_by}
use Rattle.sc_base.specs.Roster.{is_member}

-- how many of the members are among the voters
abbrev pub votes_of : List ℕ → List ℕ → ℕ
votes_of members voters = count_by (λ member. is_member voters member) members

-- whether more than half of the members are among the voters
abbrev pub is_majority : List ℕ → List ℕ → Bool
is_majority members voters = nat_lt (length members) (2 * votes_of members voters)

-- more than half of the members are among the voters
abbrev pub IsMajority : List ℕ → List ℕ → Type 0
IsMajority members voters = length members < 2 * votes_of members voters
