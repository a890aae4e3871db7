-- The mail of a group is, through a calm journal, as its leader's course needs it.
use Rattle.std.specs.Prelude.{◌≡◌, ℕ, ◌<◌, true, List, [], ◌++◌, Some, None, ◌⊎◌}
use Rattle.sc_base.specs.Definitions.{Among, Each, is_member}
use Rattle.sc_node_table.specs.Values.{Base, OrderLine, Seat, Event}
use Rattle.sc_actor.specs.Definitions.{mails}
use Rattle.sc_live_orderly.specs.OrderlyDefinitions.{AreInTime}
use Rattle.sc_scenario.specs.scenario.Definitions.{IsBounded}
use Rattle.sc_scenario.specs.declared.scenario.scenarios.Scenario.{Scenario}
use Rattle.sc_words.specs.paxos.PaxosDefinitions.{IsAtLeast}
use Rattle.sc_node_table.specs.NodeDefinitions.{ReplicaState, born_replica, slots_ahead}
use Rattle.sc_meaning.specs.sound.SoundDefinitions.{Player, births, as_nodes}
use Rattle.sc_live_steps.specs.calm.CalmDefinitions.{players, Rows}
use Rattle.sc_live_steps.specs.following.FollowingDefinitions.{Course, Sets, SlotLeaders}
use Rattle.sc_live_journals.specs.rows.RowDefinitions.{view_at, marks_at, progress_at, IsSeat, with_event}
use Rattle.sc_live_journals.specs.groups.GroupDefinitions.{IsLedStep, Ends, IsWellLed, IsLogOf, HasOneLog, IsSentSo}
use Rattle.sc_live_journals.specs.logs.LogDefinitions.{logged_sets, IsGroupOf}
use Rattle.sc_live_answers.specs.LedGroups.{over_at}
use Rattle.sc_live_answers.specs.SlotLeaders.{slot_leaders_at, AreFew}
use Rattle.sc_live_answers.specs.PrepareStarts.{IsAskedOn}
use Rattle.sc_live_answers.specs.MailReceivers.{IsAtHome}
use Rattle.sc_live_answers.specs.MailContents.{AreSaidWell}

-- after some rows, in a course of the group: its mail finds a replica where it needs one, and each mail that was ever sent is as `SaysWell` says
pub record IsSentOn (at : Sets) (words : ℕ → ℕ → ℕ × ℕ) (births : List (Seat Player)) (rows : Rows) (base : Base) (course : Course) : Type 0 where
  pub homes : IsAtHome at (progress_at births rows base course) (marks_at (players words births) rows base.core.id)
  pub says : AreSaidWell base.core.id course.ballot (mails rows)

-- no mail of a group is pending for a first member that has no replica of it yet
abbrev pub IsQuietWhileYoung : (ℕ → ℕ → ℕ × ℕ) → List (Seat Player) → Rows → Base → Type 0
IsQuietWhileYoung words births rows base = (who : ℕ) → is_member base.core.members who ≡ true → view_at births rows base.core.id who ≡ None → marks_at (players words births) rows base.core.id who ≡ []

-- the group's mail is as `IsSentSo` says after one row more, where the group is well led, and no mail of it is pending for a first member that has no replica yet
abbrev pub NextMailIsSentSo : Type 0
NextMailIsSentSo =
    (words : ℕ → ℕ → ℕ × ℕ) (at : Sets) (over : Ends) (by : SlotLeaders) (scenario : Scenario) (rows : Rows) (seat : Seat Player) (event : Event OrderLine) (base : Base) (course : Course) → IsBounded scenario → IsLogOf at by
    → AreInTime (players words (births as_nodes scenario)) (with_event rows seat event) → IsWellLed at over by words (births as_nodes scenario) rows base course → IsSentOn at words (births as_nodes scenario) rows base course
    → IsQuietWhileYoung words (births as_nodes scenario) rows base → IsSentSo (births as_nodes scenario) rows base → IsSentSo (births as_nodes scenario) (with_event rows seat event) base

-- each replica of the group at the births is as the group begins, at one of its first members
abbrev pub AreBornAsBegun : List (Seat Player) → Base → Type 0
AreBornAsBegun births base = (who : ℕ) → (view_at births [] base.core.id who ≡ None) ⊎ ((view_at births [] base.core.id who ≡ Some (born_replica slots_ahead who base)) × (is_member base.core.members who ≡ true))

-- after some rows a group is well led in a course, its mail is as that course needs it, and it has one log
pub record IsSentThrough (at : Sets) (over : Ends) (by : SlotLeaders) (words : ℕ → ℕ → ℕ × ℕ) (births : List (Seat Player)) (rows : Rows) (base : Base) : Type 0 where
  pub course : Course
  pub led : IsWellLed at over by words births rows base course
  pub sent : IsSentOn at words births rows base course
  pub asked : IsAskedOn words births rows base course
  pub so : IsSentSo births rows base
  pub one : HasOneLog at over by births rows base

-- `IsSentThrough` holds after one event more, in the course that comes of its row
pub record IsSentStep (at : Sets) (over : Ends) (by : SlotLeaders) (words : ℕ → ℕ → ℕ × ℕ) (births : List (Seat Player)) (rows : Rows) (seat : Seat Player) (event : Event OrderLine) (base : Base) (course : Course) : Type 0 where
  pub step : IsLedStep at over by words births rows seat event base course
  pub through : IsSentThrough at over by words births (with_event rows seat event) base
  pub same : through.course ≡ step.later

-- each group of a lawful journal of a valid scenario is as `IsSentThrough` says at the births
abbrev pub GroupsBeginSent : Type 0
GroupsBeginSent =
    (words : ℕ → ℕ → ℕ × ℕ) (scenario : Scenario) (journal : Rows) (base : Base) → IsGroupOf as_nodes words scenario journal base → AreInTime (players words (births as_nodes scenario)) journal → AreFew as_nodes scenario journal base
    → IsSentThrough (logged_sets as_nodes base journal) (over_at as_nodes base journal) (slot_leaders_at as_nodes scenario base journal) words (births as_nodes scenario) [] base

-- `IsSentThrough` holds after each row of a journal whose rows come in time, where no mail of the group is pending for a first member that has no replica of it yet
abbrev pub NextRowsAreSent : Type 0
NextRowsAreSent =
    (words : ℕ → ℕ → ℕ × ℕ) (scenario : Scenario) (journal : Rows) (base : Base) → IsGroupOf as_nodes words scenario journal base → AreInTime (players words (births as_nodes scenario)) journal → AreFew as_nodes scenario journal base
    → (rows more : Rows) (seat : Seat Player) (event : Event OrderLine) → journal ≡ with_event rows seat event ++ more → IsSeat (births as_nodes scenario) seat
    → (t : IsSentThrough (logged_sets as_nodes base journal) (over_at as_nodes base journal) (slot_leaders_at as_nodes scenario base journal) words (births as_nodes scenario) rows base) → IsQuietWhileYoung words (births as_nodes scenario) rows base
    → IsSentStep (logged_sets as_nodes base journal) (over_at as_nodes base journal) (slot_leaders_at as_nodes scenario base journal) words (births as_nodes scenario) rows seat event base t.course

-- `IsSentThrough` holds after each prefix of a journal whose rows come in time, where in no prefix mail of the group is pending for a first member that has no replica of it yet
abbrev pub LedJournalsAreSentSo : Type 0
LedJournalsAreSentSo =
    (words : ℕ → ℕ → ℕ × ℕ) (scenario : Scenario) (journal : Rows) (base : Base) → IsGroupOf as_nodes words scenario journal base → AreInTime (players words (births as_nodes scenario)) journal → AreFew as_nodes scenario journal base
    → ((rows more : Rows) → journal ≡ rows ++ more → IsQuietWhileYoung words (births as_nodes scenario) rows base)
    → (rows more : Rows) → journal ≡ rows ++ more → IsSentThrough (logged_sets as_nodes base journal) (over_at as_nodes base journal) (slot_leaders_at as_nodes scenario base journal) words (births as_nodes scenario) rows base

-- no replica of a group as `IsSentThrough` says saw a later ballot than the course's, has accepted anything at a slot at which nothing was offered, or keeps a report
pub record SentReplicas : Type 0 where
  pub saw : (at : Sets) (over : Ends) (by : SlotLeaders) (words : ℕ → ℕ → ℕ × ℕ) (births : List (Seat Player)) (rows : Rows) (base : Base) (t : IsSentThrough at over by words births rows base) (node : ℕ) (r : ReplicaState) → view_at births rows base.core.id node ≡ Some r
      → IsAtLeast t.course.ballot r.top × Each (λ report. report.slot < t.course.bound) r.acceptor.accepted
  pub plain : (at : Sets) (over : Ends) (by : SlotLeaders) (words : ℕ → ℕ → ℕ × ℕ) (births : List (Seat Player)) (rows : Rows) (base : Base) → IsSentThrough at over by words births rows base → (node : ℕ) (r : ReplicaState) → view_at births rows base.core.id node ≡ Some r
      → r.leader.reports ≡ []

-- each group of a lawful journal of a valid scenario is at the births as it begins: one of the scenario, or one of which no node has a replica then
abbrev pub GroupsAreBornAsBegun : Type 0
GroupsAreBornAsBegun = (words : ℕ → ℕ → ℕ × ℕ) (scenario : Scenario) (journal : Rows) (base : Base) → IsGroupOf as_nodes words scenario journal base → AreBornAsBegun (births as_nodes scenario) base

-- a first member of a group of the scenario has a replica at all times, so no mail is pending for one without
abbrev pub FirstGroupsAreNeverYoung : Type 0
FirstGroupsAreNeverYoung =
    (words : ℕ → ℕ → ℕ × ℕ) (scenario : Scenario) (rows : Rows) (base : Base) → IsBounded scenario → Among base scenario.groups → AreInTime (players words (births as_nodes scenario)) rows
    → IsQuietWhileYoung words (births as_nodes scenario) rows base
