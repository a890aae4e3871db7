-- Each member of a group's state learns the entry after it, through a journal in which the group is well led.
use Rattle.std.specs.Prelude.{◌≡◌, ℕ, true, List, [], ◌++◌, None}
use Rattle.sc_base.specs.Definitions.{Among, is_member}
use Rattle.sc_node_table.specs.Values.{Base, OrderLine, Seat, Event}
use Rattle.sc_live_orderly.specs.OrderlyDefinitions.{AreInTime}
use Rattle.sc_scenario.specs.scenario.Definitions.{IsBounded}
use Rattle.sc_scenario.specs.declared.scenario.scenarios.Scenario.{Scenario}
use Rattle.sc_meaning.specs.sound.SoundDefinitions.{Player, births, as_nodes}
use Rattle.sc_live_steps.specs.calm.CalmDefinitions.{players, Rows}
use Rattle.sc_live_steps.specs.following.FollowingDefinitions.{Course, Sets, SlotLeaders, AreTaught}
use Rattle.sc_live_journals.specs.rows.RowDefinitions.{view_at, progress_at, marks_at, with_event}
use Rattle.sc_live_journals.specs.groups.GroupBeginnings.{BeginsSo}
use Rattle.sc_live_journals.specs.groups.RowKinds.{IsGroupRow}
use Rattle.sc_live_journals.specs.groups.WellLedGroups.{Ends, IsWellLed}
use Rattle.sc_live_journals.specs.groups.WellLedRows.{IsStage}
use Rattle.sc_live_journals.specs.groups.WellLedJournals.{AreWellBorn, HasOneLog, IsSentSo}

-- After these rows, in this course, `AreTaught` holds: each member of a state of the group has learnt the entry after it, or does so by its mail.
abbrev pub AreTaughtAt : Sets → (ℕ → ℕ → ℕ × ℕ) → List (Seat Player) → Rows → Base → Course → Type 0
AreTaughtAt at words births rows base course = AreTaught at (progress_at births rows base course) (marks_at (players words births) rows base.core.id)

-- The group is well led after these rows in some course, and `AreTaughtAt` holds in that course.
pub record IsTaughtOn (at : Sets) (over : Ends) (by : SlotLeaders) (words : ℕ → ℕ → ℕ × ℕ) (births : List (Seat Player)) (rows : Rows) (base : Base) : Type 0 where
  pub course : Course
  pub led : IsWellLed at over by words births rows base course
  pub taught : AreTaughtAt at words births rows base course

-- Each row of a known kind keeps `AreTaughtAt`.
abbrev pub RowsKeepTaught : Type 0
RowsKeepTaught =
    (at : Sets) (over : Ends) (by : SlotLeaders) (words : ℕ → ℕ → ℕ × ℕ) (births : List (Seat Player)) (rows : Rows) (seat : Seat Player) (event : Event OrderLine) (base : Base) (course later : Course) → IsStage at over by words births rows seat event base course
    → IsGroupRow at over by births rows seat event base course later → AreTaughtAt at words births rows base course → AreTaughtAt at words births (with_event rows seat event) base later

-- `IsTaughtOn` holds of each group of a bounded scenario at its birth.
abbrev pub ScenariosBeginTaught : Type 0
ScenariosBeginTaught =
    (at : Sets) (over : Ends) (by : SlotLeaders) (words : ℕ → ℕ → ℕ × ℕ) (scenario : Scenario) (base : Base) → IsBounded scenario → Among base scenario.groups → BeginsSo at over base → IsTaughtOn at over by words (births as_nodes scenario) [] base

-- `IsTaughtOn` holds at the births of a group of which no node has a replica there.
abbrev pub ChildrenBeginTaught : Type 0
ChildrenBeginTaught =
    (at : Sets) (over : Ends) (by : SlotLeaders) (words : ℕ → ℕ → ℕ × ℕ) (births : List (Seat Player)) (base : Base) → is_member base.core.members base.core.first ≡ true → ((who : ℕ) → view_at births [] base.core.id who ≡ None) → BeginsSo at over base
    → IsTaughtOn at over by words births [] base

-- `IsTaughtOn` holds after each row of a journal in time in which the group's log is one (`HasOneLog`), if it holds at first.
abbrev pub GroupsAreTaughtThrough : Type 0
GroupsAreTaughtThrough =
    (at : Sets) (over : Ends) (by : SlotLeaders) (words : ℕ → ℕ → ℕ × ℕ) (births : List (Seat Player)) (journal : Rows) (base : Base) → AreWellBorn births → HasOneLog at over by births journal base → IsSentSo births journal base
    → AreInTime (players words births) journal → IsTaughtOn at over by words births [] base → (rows more : Rows) → journal ≡ rows ++ more → IsTaughtOn at over by words births rows base
