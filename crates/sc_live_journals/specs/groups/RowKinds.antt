-- What each row of players is to a group that is well led, and the course that the group has after it.
use Rattle.std.specs.Prelude.{◌≡◌, ℕ, true, false, List, Some, None}
use Rattle.sc_node_table.specs.Values.{Ballot, Base, OrderLine, Seat, Event}
use Rattle.sc_actor.specs.Definitions.{mails}
use Rattle.sc_node_table.specs.NodeDefinitions.{ReplicaState, Place, made_by}
use Rattle.sc_meaning.specs.sound.SoundDefinitions.{Player}
use Rattle.sc_live_steps.specs.calm.CalmDefinitions.{Rows}
use Rattle.sc_live_steps.specs.following.FollowingDefinitions.{Mark, Installs, Course, Sets, SlotLeaders, IsIdle, Takes, StepsBy}
use Rattle.sc_live_journals.specs.rows.RowDefinitions.{IsUnmoved, taken_mark, led_course, elected_course, with_event, IsKind, IsReplicasRow, LeavesOrCreates}
use Rattle.sc_live_journals.specs.groups.WellLedGroups.{Ends, IsWellLed}
use Rattle.sc_live_journals.specs.groups.RequiredLogs.{IsLogsState, CountsTo}
use Rattle.sc_live_journals.specs.groups.WellLedRows.{LeadsWell, ElectsWell}

-- What one row is to a group that is well led, with the group's course after it. `RowPasses`: it does nothing in the group, but may create the node's replica at the group's birth.
-- `RowRests`: a replica that does not lead stays where it is. `RowTakes`, `RowMakes`: a replica takes a mail, or a node creates one from a state.
-- `RowLeads`: its leader acts. `RowElects`: a node elects itself.
pub data IsGroupRow (at : Sets) (over : Ends) (by : SlotLeaders) (births : List (Seat Player)) (rows : Rows) (seat : Seat Player) (event : Event OrderLine) (base : Base) (course later : Course) : Type 0 where
  RowPasses : later ≡ course → LeavesOrCreates births rows seat event base → IsGroupRow at over by births rows seat event base course later
  RowRests : later ≡ course → (r : ReplicaState) (after : Place) → IsReplicasRow births rows seat event base.core.id (Some r) after → r.running ≡ false → IsUnmoved base.core.id r after → IsKind IsIdle births rows seat event base course course
      → IsGroupRow at over by births rows seat event base course later
  RowTakes : later ≡ course → (r : ReplicaState) (after : Place) (mark : Mark) → IsReplicasRow births rows seat event base.core.id (Some r) after → taken_mark base.core.id (mails rows) event ≡ Some mark → StepsBy mark r after
      → IsKind (Takes at) births rows seat event base course course → IsGroupRow at over by births rows seat event base course later
  RowMakes : later ≡ course → (from slot : ℕ) (state : Base) (sets : List (List ℕ)) → IsReplicasRow births rows seat event base.core.id None (made_by seat.who from base.core.id slot state sets) → taken_mark base.core.id (mails rows) event ≡ Some (Installs slot)
      → IsLogsState at by base slot from state sets → IsKind (Takes at) births rows seat event base course course → IsGroupRow at over by births rows seat event base course later
  RowLeads : (r : ReplicaState) (after : Place) → IsReplicasRow births rows seat event base.core.id (Some r) after → r.running ≡ true → CountsTo by r after.0 seat.who → (l : LeadsWell at over by births rows seat event base course after)
      → later ≡ led_course l.led.bound course after.0 → IsGroupRow at over by births rows seat event base course later
  RowElects : (r : ReplicaState) (after : Place) (ballot : Ballot) → IsReplicasRow births rows seat event base.core.id (Some r) after → r.running ≡ false → ElectsWell at births rows seat event base course ballot after → later ≡ elected_course course ballot
      → IsGroupRow at over by births rows seat event base course later

-- The group is well led after the event, in a course that its row gives.
pub record IsLedStep (at : Sets) (over : Ends) (by : SlotLeaders) (words : ℕ → ℕ → ℕ × ℕ) (births : List (Seat Player)) (rows : Rows) (seat : Seat Player) (event : Event OrderLine) (base : Base) (course : Course) : Type 0 where
  pub later : Course
  pub led : IsWellLed at over by words births (with_event rows seat event) base later
  pub row : IsGroupRow at over by births rows seat event base course later
