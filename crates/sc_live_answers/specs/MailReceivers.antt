-- Mail of a group finds a replica where it needs one; stated of marks, and kept by each kind of row.
use Rattle.std.specs.Prelude.{◌≡◌, ℕ, ◌≤◌, false, List, [], Option}
use Rattle.sc_base.specs.Definitions.{Each, is_member}
use Rattle.sc_node_table.specs.Values.{Ballot}
use Rattle.sc_live_steps.specs.following.FollowingDefinitions.{Mark, Asks, Votes, Teaches, Installs, Prepares, Promises, Progress, Sets, IsFollowing, IsRow, IsIdle, Takes, Leads, Elects}

-- the node of the ballot has a replica
abbrev pub IsHeld : Progress → Ballot → Type 0
IsHeld now ballot = 1 ≤ now.next ballot.node

-- a vote or a promise comes to a node that has a replica, and a mail that asks to promise names a ballot of such a node
abbrev pub FindsOne : Progress → ℕ → Mark → Type 0
FindsOne now who (Votes node ballot slot) = 1 ≤ now.next who
FindsOne now who (Promises node ballot) = 1 ≤ now.next who
FindsOne now who (Prepares ballot) = IsHeld now ballot
FindsOne now who (Asks ballot slot) = Unit {0}
FindsOne now who (Teaches slot) = Unit {0}
FindsOne now who (Installs slot) = Unit {0}

-- the number is of no member at any slot
abbrev pub IsStranger : Sets → ℕ → Type 0
IsStranger at who = (slot : ℕ) → is_member (at slot) who ≡ false

-- votes and promises come to nodes with a replica, each ballot that is promised is of such a node, and a number that is never a member has no replica and no mail of the group
pub record IsAtHome (at : Sets) (now : Progress) (marks : ℕ → List Mark) : Type 0 where
  pub finds : (who : ℕ) → Each (FindsOne now who) (marks who)
  pub promised : (who : ℕ) → IsHeld now (now.promise who)
  pub strangers : (who : ℕ) → IsStranger at who → (now.next who ≡ 0) × (marks who ≡ [])

-- each row of this kind keeps `IsAtHome`, where the group follows its leader
abbrev pub KeepsHomes : (Sets → Progress → Progress → ℕ → Option Mark → (ℕ → List Mark) → Type 0) → Type 0
KeepsHomes Kind =
    (at : Sets) (now after : Progress) (node : ℕ) (taken : Option Mark) (sent marks marks_after : ℕ → List Mark)
    → IsRow now after node taken sent marks marks_after → Kind at now after node taken sent → IsFollowing at now marks → IsAtHome at now marks → IsAtHome at after marks_after

-- rows of each of the four kinds keep `IsAtHome`
pub record HomesAreKept : Type 0 where
  pub idle : KeepsHomes (λ at. IsIdle)
  pub takes : KeepsHomes Takes
  pub leads : KeepsHomes Leads
  pub self_election : KeepsHomes Elects
