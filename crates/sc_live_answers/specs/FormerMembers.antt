-- Whom a node that has left a group takes for its leader: the node of the ballot that it promised last, which still leads or has promised a later round.
use Rattle.std.specs.Prelude.{◌≡◌, ℕ, ◌<◌, true, false, List, Option, Some, ◌⊎◌}
use Rattle.sc_node_table.specs.Values.{Ballot}
use Rattle.sc_live_steps.specs.following.FollowingDefinitions.{Mark, reached, pledged, Progress, Sets, IsOpen, SlotLeaders, hinted}

-- the ballot is that of the node that leads or led last, or its own node has promised a later round, once that node has taken its mail
abbrev pub IsPassed : Progress → (ℕ → List Mark) → Ballot → Type 0
IsPassed now marks ballot = (ballot ≡ now.course.ballot) ⊎ (ballot.round < (pledged (now.promise ballot.node) (marks ballot.node)).round)

-- once it has taken its mail, the node takes for the leader the node of the ballot that it has promised, and that ballot is as `IsPassed` says
pub record IsFated (at : Sets) (by : SlotLeaders) (now : Progress) (hints : ℕ → Option ℕ) (marks : ℕ → List Mark) (who : ℕ) : Type 0 where
  pub hint_is : hinted at by (now.promise who) (hints who) (marks who) ≡ Some (pledged (now.promise who) (marks who)).node
  pub passed : IsPassed now marks (pledged (now.promise who) (marks who))

-- once it has taken its mail, the node has executed all of a group that is gone
abbrev pub EndsGone : Progress → (ℕ → List Mark) → ℕ → Type 0
EndsGone now marks who = (now.course.gone ≡ true) × (reached (now.next who) (marks who) ≡ now.course.newest)

-- each node that decides no open slot is as `IsFated` says, and in a group that is gone so is each that has not executed all; the node that led last has executed all of a group that is gone, and decides an open slot of one that stands but has no leader
pub record AreFated (at : Sets) (by : SlotLeaders) (now : Progress) (hints : ℕ → Option ℕ) (marks : ℕ → List Mark) : Type 0 where
  pub fates : (who : ℕ) → (IsOpen at now.course.newest who → now.course.gone ≡ true) → EndsGone now marks who ⊎ IsFated at by now hints marks who
  pub last : now.course.running ≡ false → now.course.gone ≡ true → now.next now.course.ballot.node ≡ now.course.newest
  pub left : now.course.running ≡ false → now.course.gone ≡ false → IsOpen at now.course.newest now.course.ballot.node
