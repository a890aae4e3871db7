-- Each member of a state learns the entry after it, and no other node does.
use Rattle.std.specs.Prelude.{◌≡◌, ℕ, suc, ◌<◌, true, List, [], Option, ◌⊎◌}
use Rattle.sc_base.specs.Definitions.{Each, IsRoster, is_member}
use Rattle.sc_node_table.specs.Values.{Ballot}
use Rattle.sc_live_steps.specs.following.MailUnderWay.{Mark, Asks, Votes, Teaches, Installs, Prepares, Promises, reached, Progress, Sets, members_at, IsFollowing}
use Rattle.sc_live_steps.specs.following.Hints.{SlotLeaders, LeavesLast}
use Rattle.sc_live_steps.specs.following.LeaderRows.{IsRow, IsIdle, Takes, Leads, Elects, begun}

-- An entry is sent to be learnt only to a member before it, and a state only to a member of that state.
abbrev pub IsForMember : Sets → ℕ → Mark → Type 0
IsForMember at node (Teaches slot) = is_member (members_at at slot) node ≡ true
IsForMember at node (Installs slot) = is_member (members_at at (suc slot)) node ≡ true
IsForMember at node (Asks ballot slot) = Unit {0}
IsForMember at node (Votes other ballot slot) = Unit {0}
IsForMember at node (Prepares ballot) = Unit {0}
IsForMember at node (Promises other ballot) = Unit {0}

-- The node is a member before the entry at this slot, or after it.
abbrev pub IsMemberBy : Sets → ℕ → ℕ → Type 0
IsMemberBy at node slot = (is_member (members_at at slot) node ≡ true) ⊎ (is_member (members_at at (suc slot)) node ≡ true)

-- Each member of a state before an entry has learnt the entry, or does so by its mail; entries and states are sent only to members.
-- The last entry that a node learnt, or took over with a state, has the node as a member before or after it.
pub record AreTaught (at : Sets) (now : Progress) (marks : ℕ → List Mark) : Type 0 where
  pub taught : (node slot : ℕ) → slot < now.course.newest → is_member (members_at at slot) node ≡ true → slot < reached (now.next node) (marks node)
  pub told : (node : ℕ) → Each (IsForMember at node) (marks node)
  pub learnt : (node slot : ℕ) → now.next node ≡ suc slot → IsMemberBy at node slot

-- What a kind of row says besides of whether the leader is a member.
abbrev pub TaughtKind : Type 1
TaughtKind = Sets → SlotLeaders → Progress → Progress → Type 0

-- Nothing is said besides.
abbrev pub NoMore : TaughtKind
NoMore at by now after = Unit {0}

-- Each row of this kind keeps `AreTaught`.
abbrev pub KeepsTaught : (Sets → Progress → Progress → ℕ → Option Mark → (ℕ → List Mark) → Type 0) → TaughtKind → Type 0
KeepsTaught Kind More =
    (at : Sets) (by : SlotLeaders) (now after : Progress) (node : ℕ) (taken : Option Mark) (sent marks marks_after : ℕ → List Mark) → ((slot : ℕ) → IsRoster (at slot)) → IsRow now after node taken sent marks marks_after
    → Kind at now after node taken sent → IsFollowing at now marks → More at by now after → AreTaught at now marks → AreTaught at after marks_after

-- Each kind of row keeps `AreTaught`, and it holds where a group begins whose first members decide from the first slot on.
pub record TaughtIsKept : Type 0 where
  pub begin : (at : Sets) (ballot : Ballot) → at 3 ≡ at 4 → AreTaught at (begun (members_at at 1) ballot) (λ node. [])
  pub idle : KeepsTaught (λ at. IsIdle) NoMore
  pub takes : KeepsTaught Takes NoMore
  pub leads : KeepsTaught Leads LeavesLast
  pub self_election : KeepsTaught Elects NoMore

-- Where no mail of the group is under way, each node that was a member before an entry has learnt the entry.
abbrev pub QuietMembersKnow : Type 0
QuietMembersKnow =
    (at : Sets) (now : Progress) (marks : ℕ → List Mark) → ((node : ℕ) → marks node ≡ []) → AreTaught at now marks
    → (node slot : ℕ) → slot < now.course.newest → is_member (members_at at slot) node ≡ true → slot < now.next node
