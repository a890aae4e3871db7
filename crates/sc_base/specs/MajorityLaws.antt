-- Laws of majorities.
use Rattle.std.specs.Prelude.{◌≡◌, ℕ, IsTrue, List, false}
use Rattle.sc_base.specs.Roster.{is_member, with_member}
use Rattle.sc_base.specs.Majority.{IsMajority}

-- some member is among the voters of both lists
pub record SharesMember (members one other : List ℕ) : Type 0 where
  pub node : ℕ
  pub member : IsTrue (is_member members node)
  pub in_one : IsTrue (is_member one node)
  pub in_other : IsTrue (is_member other node)

-- any two majorities of one set share a member
abbrev pub MajoritiesMeet : Type 0
MajoritiesMeet = (members one other : List ℕ) → IsMajority members one → IsMajority members other → SharesMember members one other

-- a majority of a set and a majority of the set with one more node share a member of the set
abbrev pub NeighboursMeet : Type 0
NeighboursMeet = (members : List ℕ) (node : ℕ) (one other : List ℕ) → is_member members node ≡ false
    → IsMajority members one → IsMajority (with_member members node) other → SharesMember members one other
