-- A leader has taken its own Prepare before it executes an entry: that Prepare comes before every promise of its ballot.
use Rattle.std.specs.Prelude.{◌≡◌, ℕ, suc, ◌<◌, ◌≤◌, true, false, List, [], ◌∷◌, Option, Some, ◌⊎◌}
use Rattle.sc_base.specs.Definitions.{Each}
use Rattle.sc_node_table.specs.Values.{Ballot}
use Rattle.sc_node_table.specs.NodeDefinitions.{ReplicaState, Place}
use Rattle.sc_words.specs.paxos.PaxosDefinitions.{IsAtLeast}
use Rattle.sc_live_steps.specs.following.PrepareSlots.{IsNoPrepare}
use Rattle.sc_live_steps.specs.following.MailUnderWay.{Mark, Asks, Votes, Teaches, Installs, Prepares, Promises, Course, Progress, Sets, members_at, IsFollowing}
use Rattle.sc_live_steps.specs.following.LeaderTables.{IsLeadOf, progress_by, LeadsInto}
use Rattle.sc_live_steps.specs.following.FlightOrder.{IsOrderly}
use Rattle.sc_live_steps.specs.following.LeaderRows.{IsRow, IsIdle, Takes, Leads, Elects, begun}

-- The mark is no Prepare of this ballot.
abbrev pub IsOtherPrepare : Ballot → Mark → Type 0
IsOtherPrepare ballot (Prepares other) = other ≡ ballot → ⊥
IsOtherPrepare ballot (Asks other slot) = Unit {0}
IsOtherPrepare ballot (Votes node other slot) = Unit {0}
IsOtherPrepare ballot (Teaches slot) = Unit {0}
IsOtherPrepare ballot (Installs slot) = Unit {0}
IsOtherPrepare ballot (Promises node other) = Unit {0}

-- If the mark is a Prepare, it is of this ballot.
abbrev pub IsOwnPrepare : Ballot → Mark → Type 0
IsOwnPrepare ballot (Prepares other) = other ≡ ballot
IsOwnPrepare ballot (Asks other slot) = Unit {0}
IsOwnPrepare ballot (Votes node other slot) = Unit {0}
IsOwnPrepare ballot (Teaches slot) = Unit {0}
IsOwnPrepare ballot (Installs slot) = Unit {0}
IsOwnPrepare ballot (Promises node other) = Unit {0}

-- If the mark is a promise, it is under way to the node of its ballot, and that ballot is no later than the group's.
abbrev pub IsHome : Course → ℕ → Mark → Type 0
IsHome course who (Promises node ballot) = (ballot.node ≡ who) × IsAtLeast course.ballot ballot
IsHome course who (Asks ballot slot) = Unit {0}
IsHome course who (Votes node ballot slot) = Unit {0}
IsHome course who (Teaches slot) = Unit {0}
IsHome course who (Installs slot) = Unit {0}
IsHome course who (Prepares ballot) = Unit {0}

-- No Prepare of a ballot stands behind a promise of that ballot.
abbrev pub ArePromisedLast : List Mark → Type 0
ArePromisedLast [] = Unit {0}
ArePromisedLast (Promises node ballot ∷ marks) = Each (IsOtherPrepare ballot) marks × ArePromisedLast marks
ArePromisedLast (Asks ballot slot ∷ marks) = ArePromisedLast marks
ArePromisedLast (Votes node ballot slot ∷ marks) = ArePromisedLast marks
ArePromisedLast (Teaches slot ∷ marks) = ArePromisedLast marks
ArePromisedLast (Installs slot ∷ marks) = ArePromisedLast marks
ArePromisedLast (Prepares ballot ∷ marks) = ArePromisedLast marks

-- No Prepare stands behind the entry before this slot, where that entry is under way to be learnt.
abbrev pub AreLearntLast : ℕ → List Mark → Type 0
AreLearntLast newest [] = Unit {0}
AreLearntLast newest (Teaches slot ∷ marks) = (suc slot ≡ newest → Each IsNoPrepare marks) × AreLearntLast newest marks
AreLearntLast newest (Promises node ballot ∷ marks) = AreLearntLast newest marks
AreLearntLast newest (Asks ballot slot ∷ marks) = AreLearntLast newest marks
AreLearntLast newest (Votes node ballot slot ∷ marks) = AreLearntLast newest marks
AreLearntLast newest (Installs slot ∷ marks) = AreLearntLast newest marks
AreLearntLast newest (Prepares ballot ∷ marks) = AreLearntLast newest marks

-- A leader takes its own Prepare before any promise of its ballot is counted.
-- A promise is counted before anything is offered in a ballot that is not the group's first.
pub record IsOwnFirst (now : Progress) (marks : ℕ → List Mark) : Type 0 where
  pub home : (who : ℕ) → Each (IsHome now.course who) (marks who)
  pub order : (who : ℕ) → ArePromisedLast (marks who)
  pub own : now.course.running ≡ true → (who : ℕ) → now.course.counted who ≡ true → Each IsNoPrepare (marks now.course.ballot.node)
  pub some : now.course.running ≡ true → now.course.is_first ≡ false → now.course.newest < now.course.bound → (who : ℕ) × (now.course.counted who ≡ true)
  pub first : now.course.running ≡ true → now.course.is_first ≡ true → Each IsNoPrepare (marks now.course.ballot.node)
  pub only : now.course.running ≡ true → Each (IsOwnPrepare now.course.ballot) (marks now.course.ballot.node)
  pub stop : now.course.running ≡ false → (who : ℕ) → AreLearntLast now.course.newest (marks who)

-- What a kind of row says besides of the promises that are counted.
abbrev pub OwnKind : Type 1
OwnKind = Progress → Progress → Option Mark → Type 0

-- Nothing is said besides.
abbrev pub AsItIs : OwnKind
AsItIs now after taken = Unit {0}

-- A leader counts a promise only by taking it, and has counted one where something is offered and not executed in a ballot that is not the group's first.
pub record CountsOwn (now after : Progress) (taken : Option Mark) : Type 0 where
  pub grown : after.course.running ≡ true → (who : ℕ) → after.course.counted who ≡ true → (now.course.counted who ≡ true) ⊎ (taken ≡ Some (Promises who now.course.ballot))
  pub some : after.course.running ≡ true → after.course.is_first ≡ false → after.course.newest < after.course.bound → (who : ℕ) × (after.course.counted who ≡ true)

-- A node that elects itself has counted no promise, and learns the last entry by this row.
pub record CountsNone (now after : Progress) (taken : Option Mark) : Type 0 where
  pub none : (who : ℕ) → after.course.counted who ≡ false
  pub told : (slot : ℕ) × (suc slot ≡ now.course.newest) × (taken ≡ Some (Teaches slot))

-- Each row of this kind keeps `IsOwnFirst`.
abbrev pub KeepsOwn : (Sets → Progress → Progress → ℕ → Option Mark → (ℕ → List Mark) → Type 0) → OwnKind → Type 0
KeepsOwn Kind Own =
    (at : Sets) (now after : Progress) (node : ℕ) (taken : Option Mark) (sent marks marks_after : ℕ → List Mark) → IsRow now after node taken sent marks marks_after → Kind at now after node taken sent → IsFollowing at now marks
    → Own now after taken → IsOwnFirst now marks → IsOwnFirst after marks_after

-- Each kind of row keeps `IsOwnFirst`, and it holds where a group begins. `execution`: no Prepare is under way to a leader that executes an entry.
pub record OwnIsKept : Type 0 where
  pub begin : (at : Sets) (ballot : Ballot) → IsOwnFirst (begun (members_at at 1) ballot) (λ node. [])
  pub idle : KeepsOwn (λ at. IsIdle) AsItIs
  pub takes : KeepsOwn Takes AsItIs
  pub leads : KeepsOwn Leads CountsOwn
  pub self_election : KeepsOwn Elects CountsNone
  pub execution : (at : Sets) (now after : Progress) (node : ℕ) (taken : Option Mark) (sent marks : ℕ → List Mark) (l : Leads at now after node taken sent) → IsOwnFirst now marks → 1 ≤ l.executed → Each IsNoPrepare (marks node)

-- A leader's row in the table satisfies `CountsOwn`, if what the leader has in flight and ready after it is in order.
abbrev pub LeadersCountOwn : Type 0
LeadersCountOwn =
    (at : Sets) (now : Progress) (taken : Option Mark) (r : ReplicaState) (after : Place) → IsLeadOf at now r → (l : LeadsInto at now taken r after) → (after.0.running ≡ true → IsOrderly after.0) → CountsOwn now (progress_by l.bound now after.0) taken
