-- Rounds are few: while an order is under way each group begins one round more at most, and else none.
use Rattle.std.specs.Prelude.{◌≡◌, ℕ, ◌+◌, ◌≤◌, true, false, List, [], Some, ◌⊎◌}
use Rattle.sc_base.specs.Definitions.{Among, is_member}
use Rattle.sc_node_table.specs.Values.{Ballot, Draw, Base, OrderLine, Seat, Event, Deliver}
use Rattle.sc_live_orderly.specs.OrderlyDefinitions.{AreInTime}
use Rattle.sc_scenario.specs.declared.scenario.scenarios.Scenario.{Scenario}
use Rattle.sc_node_table.specs.NodeDefinitions.{ReplicaState}
use Rattle.sc_meaning.specs.sound.SoundDefinitions.{Player, births, as_nodes}
use Rattle.sc_live_steps.specs.calm.CalmDefinitions.{players, HasReplica, Rows}
use Rattle.sc_live_steps.specs.following.FollowingDefinitions.{Course, Sets, SlotLeaders}
use Rattle.sc_live_steps.specs.orders.OrderDefinitions.{Deal, Stage, Still, Asks, leads_of, IsAt, works}
use Rattle.sc_actor.specs.declared.rows.Event.TheVariants.{Told}
use Rattle.sc_live_journals.specs.scenes.SceneDefinitions.{IsThere, AreUntouched, GivesAnOrder, GoesBy, scene_at}
use Rattle.sc_live_answers.specs.HintInvariant.{IsRisingOn}
use Rattle.sc_live_journals.specs.rows.RowDefinitions.{view_at, marks_at, IsSeat, with_event}
use Rattle.sc_live_journals.specs.groups.GroupDefinitions.{Ends}
use Rattle.sc_live_answers.specs.GroupMail.{IsSentThrough, IsSentStep}

-- if the group has a replica, each of its first members has one
abbrev pub HasMembers : List (Seat Player) → Rows → Base → Type 0
HasMembers births rows base = IsThere births rows base.core.id → (node : ℕ) → is_member base.core.members node ≡ true → HasReplica (view_at births rows) base.core.id node

-- at this stage something is still to come to the group's leader
abbrev pub MustLead : Stage → Draw → Type 0
MustLead stage name = (node : ℕ) × Among (name, node) (leads_of stage)

-- since a quiet prefix in which the ballot `first` led the group, that ballot is still the group's, or a node leads in a ballot of the next round at most; and while something of the order is still to come to the group's leader, the ballot is `first`
pub record HasOneRound (first : Ballot) (stage : Stage) (name : Draw) (course : Course) : Type 0 where
  pub one : (course.ballot ≡ first) ⊎ ((course.ballot.round ≤ first.round + 1) × (course.running ≡ true))
  pub leads : MustLead stage name → course.ballot ≡ first

-- the group is gone, nobody leads it, and its ballot is `first`
pub record StaysGone (first : Ballot) (course : Course) : Type 0 where
  pub ballot : course.ballot ≡ first
  pub off : course.running ≡ false
  pub gone : course.gone ≡ true

-- since a quiet prefix, by the course that the group had there, the group has begun one round more at most, or it was gone and still is
abbrev pub IsRoundSince : Course → Stage → Draw → Course → Type 0
IsRoundSince quiet stage name course = (quiet.running ≡ true → HasOneRound quiet.ballot stage name course) × (quiet.running ≡ false → StaysGone quiet.ballot course)

-- while an order is under way since a quiet prefix each group begins one round more at most
pub record OrdersKeepRounds : Type 0 where
  -- an order given in quiet begins no more than one round in each group
  pub told : (words : ℕ → ℕ → ℕ × ℕ) (at : Sets) (over : Ends) (by : SlotLeaders) (scenario : Scenario) (quiet : Rows) (seat : Seat Player) (line : OrderLine) (base : Base) (stage : Stage)
      → AreInTime (players words (births as_nodes scenario)) (with_event quiet seat (Told line)) → IsSeat (births as_nodes scenario) seat
      → (q : IsSentThrough at over by words (births as_nodes scenario) quiet base) → (s : IsSentStep at over by words (births as_nodes scenario) quiet seat (Told line) base q.course)
      → ((who : ℕ) → marks_at (players words (births as_nodes scenario)) quiet base.core.id who ≡ []) → IsRoundSince q.course stage base.core.id s.through.course
  -- each delivery, which leaves the stage as it is or takes it one step on, keeps `IsRoundSince`, where groups that have no part in the stage are untouched
  pub delivered : (words : ℕ → ℕ → ℕ × ℕ) (at : Sets) (over : Ends) (by : SlotLeaders) (scenario : Scenario) (quiet rows : Rows) (seat : Seat Player) (number : ℕ) (base : Base) (stage later : Stage)
      → AreInTime (players words (births as_nodes scenario)) (with_event rows seat (Deliver number)) → IsSeat (births as_nodes scenario) seat
      → (q : IsSentThrough at over by words (births as_nodes scenario) quiet base) → (t : IsSentThrough at over by words (births as_nodes scenario) rows base) → (s : IsSentStep at over by words (births as_nodes scenario) rows seat (Deliver number) base t.course)
      → HasMembers (births as_nodes scenario) quiet base → AreUntouched words (births as_nodes scenario) quiet rows stage → (later ≡ stage) ⊎ GoesBy rows (Deliver number) stage later
      → IsRoundSince q.course stage base.core.id t.course → IsRoundSince q.course later base.core.id s.through.course
  pub few : (quiet : Course) (stage : Stage) (name : Draw) (course : Course) → IsRoundSince quiet stage name course → course.ballot.round ≤ quiet.ballot.round + 1

-- each row keeps `HasOneRound`, where the group's ballot is `first` and leads if the row gives an order or the group takes a question
abbrev pub RowsKeepRound : Type 0
RowsKeepRound =
    (words : ℕ → ℕ → ℕ × ℕ) (at : Sets) (over : Ends) (by : SlotLeaders) (scenario : Scenario) (rows : Rows) (seat : Seat Player) (event : Event OrderLine) (base : Base) (first : Ballot) (stage later : Stage)
    → AreInTime (players words (births as_nodes scenario)) (with_event rows seat event) → IsSeat (births as_nodes scenario) seat
    → (t : IsSentThrough at over by words (births as_nodes scenario) rows base) → (s : IsSentStep at over by words (births as_nodes scenario) rows seat event base t.course)
    → IsAt stage (scene_at (births as_nodes scenario) rows) → (later ≡ stage) ⊎ GoesBy rows event stage later
    → (GivesAnOrder event → t.course.ballot ≡ first) → ((deal : Deal) (to : ℕ) → stage ≡ Asks deal to → deal.asked ≡ base.core.id → (t.course.ballot ≡ first) × (t.course.running ≡ true))
    → HasOneRound first stage base.core.id t.course → HasOneRound first later base.core.id s.through.course

-- since a quiet prefix the group has the ballot that it had there, in which a node leads, or it was gone and still is
abbrev pub IsBallotSince : Course → Course → Type 0
IsBallotSince quiet course = (quiet.running ≡ true → (course.ballot ≡ quiet.ballot) × (course.running ≡ true)) × (quiet.running ≡ false → StaysGone quiet.ballot course)

-- while no order is under way each group keeps its ballot: `IsBallotSince` holds in quiet, and after each row before which no command of an order stood at a leader at the row's node; and none stands where no part of an order is left
pub record RequestsKeepBallots : Type 0 where
  pub begins : (words : ℕ → ℕ → ℕ × ℕ) (at : Sets) (over : Ends) (by : SlotLeaders) (scenario : Scenario) (quiet : Rows) (base : Base) (q : IsSentThrough at over by words (births as_nodes scenario) quiet base)
      → ((who : ℕ) → marks_at (players words (births as_nodes scenario)) quiet base.core.id who ≡ []) → IsBallotSince q.course q.course
  pub goes_on : (words : ℕ → ℕ → ℕ × ℕ) (at : Sets) (over : Ends) (by : SlotLeaders) (scenario : Scenario) (rows : Rows) (seat : Seat Player) (event : Event OrderLine) (base : Base) (quiet : Course)
      → AreInTime (players words (births as_nodes scenario)) (with_event rows seat event) → IsSeat (births as_nodes scenario) seat
      → (t : IsSentThrough at over by words (births as_nodes scenario) rows base) → (s : IsSentStep at over by words (births as_nodes scenario) rows seat event base t.course)
      → ((r : ReplicaState) → view_at (births as_nodes scenario) rows base.core.id seat.who ≡ Some r → r.running ≡ true → works r ≡ []) → IsBallotSince quiet t.course → IsBallotSince quiet s.through.course
  pub still : (words : ℕ → ℕ → ℕ × ℕ) (at : Sets) (over : Ends) (by : SlotLeaders) (scenario : Scenario) (rows : Rows) (base : Base) → IsSentThrough at over by words (births as_nodes scenario) rows base → IsAt Still (scene_at (births as_nodes scenario) rows)
      → (seat : Seat Player) → IsSeat (births as_nodes scenario) seat → (r : ReplicaState) → view_at (births as_nodes scenario) rows base.core.id seat.who ≡ Some r → r.running ≡ true → works r ≡ []

-- a group whose replicas are as they were in a quiet prefix has the ballot that it had there, where a node leads it
abbrev pub SameViewsKeepBallot : Type 0
SameViewsKeepBallot =
    (words : ℕ → ℕ → ℕ × ℕ) (at : Sets) (over : Ends) (by : SlotLeaders) (scenario : Scenario) (quiet rows : Rows) (base : Base) (t : IsSentThrough at over by words (births as_nodes scenario) quiet base) (u : IsSentThrough at over by words (births as_nodes scenario) rows base)
    → HasMembers (births as_nodes scenario) quiet base → IsThere (births as_nodes scenario) quiet base.core.id → ((who : ℕ) → view_at (births as_nodes scenario) rows base.core.id who ≡ view_at (births as_nodes scenario) quiet base.core.id who) → t.course.running ≡ true → (u.course.ballot ≡ t.course.ballot) × (u.course.running ≡ true)

-- no replica saw a later round than its group's ballot has, each saw round 1 or a later one, and in quiet a group's ballot has no later round than its replicas saw
pub record RoundsAreSeen : Type 0 where
  pub most : (at : Sets) (over : Ends) (by : SlotLeaders) (words : ℕ → ℕ → ℕ × ℕ) (births : List (Seat Player)) (rows : Rows) (base : Base) (t : IsSentThrough at over by words births rows base) (node : ℕ) (r : ReplicaState) → view_at births rows base.core.id node ≡ Some r
      → r.top.round ≤ t.course.ballot.round
  pub least : (at : Sets) (by : SlotLeaders) (words : ℕ → ℕ → ℕ × ℕ) (births : List (Seat Player)) (rows : Rows) (base : Base) (course : Course) → IsRisingOn at by words births rows base course → (node : ℕ) (r : ReplicaState) → view_at births rows base.core.id node ≡ Some r → 1 ≤ r.top.round
  pub quiet : (words : ℕ → ℕ → ℕ × ℕ) (at : Sets) (over : Ends) (by : SlotLeaders) (scenario : Scenario) (quiet : Rows) (base : Base) (q : IsSentThrough at over by words (births as_nodes scenario) quiet base)
      → ((who : ℕ) → marks_at (players words (births as_nodes scenario)) quiet base.core.id who ≡ []) → HasMembers (births as_nodes scenario) quiet base
      → (most : ℕ) → 1 ≤ most → ((node : ℕ) (r : ReplicaState) → view_at (births as_nodes scenario) quiet base.core.id node ≡ Some r → r.top.round ≤ most) → q.course.ballot.round ≤ most
