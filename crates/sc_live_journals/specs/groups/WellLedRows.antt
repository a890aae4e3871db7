-- Each row of players, by its kind in a group, keeps the group well led.
use Rattle.std.specs.Prelude.{◌≡◌, ℕ, suc, ◌≤◌, true, List, Some, None, is_some}
use Rattle.sc_base.specs.Definitions.{Each, IsRoster}
use Rattle.sc_node_table.specs.Values.{Ballot, Draw, Base, OrderLine, Mail, Install, Seat, Event}
use Rattle.sc_actor.specs.Definitions.{mails}
use Rattle.sc_live_orderly.specs.OrderlyDefinitions.{AreInTime}
use Rattle.sc_node_table.specs.NodeDefinitions.{ReplicaState, Place, next}
use Rattle.sc_meaning.specs.sound.SoundDefinitions.{Player}
use Rattle.sc_live_steps.specs.calm.CalmDefinitions.{players, Rows}
use Rattle.sc_live_steps.specs.following.FollowingDefinitions.{dated_for, AsksLow, Teaches, Course, Sets, SlotLeaders, GoesBy, LeavesLast, IsLeadOf, IsOrderly, CountsOwn, IsIdle, Takes, Elects}
use Rattle.sc_live_journals.specs.rows.RowDefinitions.{view_at, progress_at, taken_mark, LeavesLead, led_course, elected_course, LedBy, with_event, IsKind, IsReplicasRow}
use Rattle.sc_live_journals.specs.groups.WellLedGroups.{Ends, hints_at, IsWellLed}

-- The group is well led after these rows, one to nine nodes decide each slot, and one more event comes in time.
pub record IsStage (at : Sets) (over : Ends) (by : SlotLeaders) (words : ℕ → ℕ → ℕ × ℕ) (births : List (Seat Player)) (rows : Rows) (seat : Seat Player) (event : Event OrderLine) (base : Base) (course : Course) : Type 0 where
  pub rosters : (slot : ℕ) → IsRoster (at slot)
  pub timely : AreInTime (players words births) (with_event rows seat event)
  pub was : IsWellLed at over by words births rows base course

-- The row leaves the leader as `LeavesLead` says, has the node's replica in order after it if that leads, and the node's replica, if any, does not vanish.
pub record LeavesWell (at : Sets) (births : List (Seat Player)) (rows : Rows) (seat : Seat Player) (event : Event OrderLine) (base : Base) (course : Course) : Type 0 where
  pub lead : LeavesLead at births rows seat event base course
  pub orderly : (r : ReplicaState) → view_at births (with_event rows seat event) base.core.id seat.who ≡ Some r → r.running ≡ true → IsOrderly r
  pub there : view_at births (with_event rows seat event) base.core.id seat.who ≡ None → view_at births rows base.core.id seat.who ≡ None

-- If the mail has a state of this group, it is from this node.
abbrev pub IsStateFrom : Draw → ℕ → Mail → Type 0
IsStateFrom name who mail = (slot : ℕ) (state : Base) (sets : List (List ℕ)) → mail.body ≡ Install name slot state sets → mail.from ≡ who

-- A row of a leader that leaves last, counts a promise only by taking it, asks to promise right behind a state, and sends states itself.
-- If the leader leads on, it is in order after the row. The group is gone where the log says so, and no entry comes after that.
pub record LeadsWell (at : Sets) (over : Ends) (by : SlotLeaders) (births : List (Seat Player)) (rows : Rows) (seat : Seat Player) (event : Event OrderLine) (base : Base) (course : Course) (after : Place) : Type 0 where
  pub led : LedBy at births rows seat event base course after
  pub last : LeavesLast at by (progress_at births rows base course) (progress_at births (with_event rows seat event) base (led_course led.bound course after.0))
  pub counts : CountsOwn (progress_at births rows base course) (progress_at births (with_event rows seat event) base (led_course led.bound course after.0)) (taken_mark base.core.id (mails rows) event)
  pub low : AsksLow base.core.id after.1
  pub states : Each (IsStateFrom base.core.id seat.who) after.1
  pub orderly : after.0.running ≡ true → IsOrderly after.0
  pub ends : is_some after.0.group.core.gone ≡ over (next after.0)
  pub rests : (slot : ℕ) → over slot ≡ true → next after.0 ≤ slot

-- A row in which a node elects itself by the last entry, which it learns: it leads after it, in order, and asks to promise from the next slot of the newest state on.
pub record ElectsWell (at : Sets) (births : List (Seat Player)) (rows : Rows) (seat : Seat Player) (event : Event OrderLine) (base : Base) (course : Course) (ballot : Ballot) (after : Place) : Type 0 where
  pub self_election : IsKind (Elects at) births rows seat event base course (elected_course course ballot)
  pub runs : after.0.running ≡ true
  pub leads : IsLeadOf at (progress_at births (with_event rows seat event) base (elected_course course ballot)) after.0
  pub told : (slot : ℕ) × (suc slot ≡ course.newest) × (taken_mark base.core.id (mails rows) event ≡ Some (Teaches slot))
  pub low : (who : ℕ) → Each (λ d. course.newest ≤ d.1) (dated_for base.core.id who after.1)
  pub orderly : IsOrderly after.0

-- Each row of these kinds keeps a group well led.
pub record RowsKeepLed : Type 0 where
  -- a row that does nothing in the group
  pub idle : (at : Sets) (over : Ends) (by : SlotLeaders) (words : ℕ → ℕ → ℕ × ℕ) (births : List (Seat Player)) (rows : Rows) (seat : Seat Player) (event : Event OrderLine) (base : Base) (course : Course) → IsStage at over by words births rows seat event base course
      → LeavesWell at births rows seat event base course → IsKind IsIdle births rows seat event base course course → hints_at births (with_event rows seat event) base seat.who ≡ hints_at births rows base seat.who
      → IsWellLed at over by words births (with_event rows seat event) base course
  -- a row in which a node takes a mail, after which it takes for the leader whom the mail's mark says
  pub takes : (at : Sets) (over : Ends) (by : SlotLeaders) (words : ℕ → ℕ → ℕ × ℕ) (births : List (Seat Player)) (rows : Rows) (seat : Seat Player) (event : Event OrderLine) (base : Base) (course : Course) → IsStage at over by words births rows seat event base course
      → LeavesWell at births rows seat event base course → IsKind (Takes at) births rows seat event base course course
      → GoesBy at by (progress_at births rows base course) (progress_at births (with_event rows seat event) base course) seat.who (taken_mark base.core.id (mails rows) event) (hints_at births rows base seat.who) (hints_at births (with_event rows seat event) base seat.who)
      → IsWellLed at over by words births (with_event rows seat event) base course
  -- a row of the leader
  pub leads : (at : Sets) (over : Ends) (by : SlotLeaders) (words : ℕ → ℕ → ℕ × ℕ) (births : List (Seat Player)) (rows : Rows) (seat : Seat Player) (event : Event OrderLine) (base : Base) (course : Course) (r : ReplicaState) (after : Place) → IsStage at over by words births rows seat event base course
      → IsReplicasRow births rows seat event base.core.id (Some r) after → (l : LeadsWell at over by births rows seat event base course after) → IsWellLed at over by words births (with_event rows seat event) base (led_course l.led.bound course after.0)
  -- a row in which a node elects itself
  pub self_election : (at : Sets) (over : Ends) (by : SlotLeaders) (words : ℕ → ℕ → ℕ × ℕ) (births : List (Seat Player)) (rows : Rows) (seat : Seat Player) (event : Event OrderLine) (base : Base) (course : Course) (ballot : Ballot) (r : ReplicaState) (after : Place) → IsStage at over by words births rows seat event base course
      → IsReplicasRow births rows seat event base.core.id (Some r) after → ElectsWell at births rows seat event base course ballot after → IsWellLed at over by words births (with_event rows seat event) base (elected_course course ballot)
