-- What keeps a group following its leader, row by row.
use Rattle.std.specs.Prelude.{◌≡◌, ℕ, ◌+◌, ◌<◌, true, false, List, [], Some, None}
use Rattle.sc_node_table.specs.Values.{Command, Ballot, Base, OrderLine, Prepare, Accept, Seat, Event}
use Rattle.sc_base.specs.Definitions.{IsRoster, is_member}
use Rattle.sc_live_orderly.specs.OrderlyDefinitions.{AreInTime}
use Rattle.sc_node_table.specs.NodeDefinitions.{ReplicaState, Place, name_of, born_replica, mailed, slots_ahead}
use Rattle.sc_law_walks.specs.WalkDefinitions.{GoesOn}
use Rattle.sc_meaning.specs.sound.SoundDefinitions.{Player}
use Rattle.sc_live_steps.specs.calm.CalmDefinitions.{players, Rows}
use Rattle.sc_live_steps.specs.following.FollowingDefinitions.{Course, Sets, IsLeadOf, IsIdle, Takes, Elects}
use Rattle.sc_live_journals.specs.rows.Groups.{view_at, progress_at, begun_course, IsLedBy, IsFollowedAt}
use Rattle.sc_live_journals.specs.rows.ReplicaSteps.{led_course, elected_course, LedBy}
use Rattle.sc_live_journals.specs.rows.PlayerRows.{with_event, IsKind, LeavesAlone, LeavesOrCreates, IsReplicasRow}

-- If the replica of the node that acts leads after the event, it does so in this course.
-- If the course says that this node leads, its replica does, or is yet to be created.
pub record LeavesLead (at : Sets) (births : List (Seat Player)) (rows : Rows) (seat : Seat Player) (event : Event OrderLine) (base : Base) (course : Course) : Type 0 where
  pub own : (r : ReplicaState) → view_at births (with_event rows seat event) base.core.id seat.who ≡ Some r → r.running ≡ true → IsLeadOf at (progress_at births (with_event rows seat event) base course) r × (seat.who ≡ course.ballot.node)
  pub runs : course.running ≡ true → seat.who ≡ course.ballot.node → IsLedBy base course (view_at births (with_event rows seat event) base.core.id seat.who)

-- Rows of which `LeavesLead` holds.
pub record LeadsStay : Type 0 where
  -- a row that leaves the node's replica of the group as it is
  pub same : (at : Sets) (words : ℕ → ℕ → ℕ × ℕ) (births : List (Seat Player)) (rows : Rows) (seat : Seat Player) (event : Event OrderLine) (base : Base) (course : Course) → IsFollowedAt at words births rows base course
      → view_at births (with_event rows seat event) base.core.id seat.who ≡ view_at births rows base.core.id seat.who → LeavesLead at births rows seat event base course
  -- a row after which the node's replica does not lead, where the course does not say that it does
  pub quiet : (at : Sets) (births : List (Seat Player)) (rows : Rows) (seat : Seat Player) (event : Event OrderLine) (base : Base) (course : Course) (r : ReplicaState)
      → view_at births (with_event rows seat event) base.core.id seat.who ≡ Some r → r.running ≡ false → (course.running ≡ true → seat.who ≡ course.ballot.node → ⊥) → LeavesLead at births rows seat event base course
  -- a row in which the node creates its replica at the group's birth
  pub born : (at : Sets) (births : List (Seat Player)) (rows : Rows) (seat : Seat Player) (event : Event OrderLine) (base : Base) (course : Course) → ((slot : ℕ) → slot < 1 + slots_ahead → at slot ≡ base.core.members)
      → IsRoster base.core.members → is_member base.core.members base.core.first ≡ true → base.core.gone ≡ None → (seat.who ≡ base.core.first → course ≡ begun_course base) → (course.running ≡ true → seat.who ≡ course.ballot.node → seat.who ≡ base.core.first)
      → view_at births (with_event rows seat event) base.core.id seat.who ≡ Some (born_replica slots_ahead seat.who base) → LeavesLead at births rows seat event base course
  -- a row in which the node's replica takes its own accept request
  pub accepts : (at : Sets) (words : ℕ → ℕ → ℕ × ℕ) (births : List (Seat Player)) (rows : Rows) (seat : Seat Player) (event : Event OrderLine) (base : Base) (course : Course) (from slot : ℕ) (ballot : Ballot) (command : Command) (r : ReplicaState)
      → IsFollowedAt at words births rows base course → r.me ≡ seat.who → GoesOn ballot r → IsReplicasRow births rows seat event base.core.id (Some r) (mailed from (Accept (name_of r) ballot slot command) (r, [])).0 → LeavesLead at births rows seat event base course
  -- a row in which the node's replica takes its own Prepare
  pub promises : (at : Sets) (words : ℕ → ℕ → ℕ × ℕ) (births : List (Seat Player)) (rows : Rows) (seat : Seat Player) (event : Event OrderLine) (base : Base) (course : Course) (from from_slot : ℕ) (ballot : Ballot) (r : ReplicaState)
      → IsFollowedAt at words births rows base course → r.me ≡ seat.who → GoesOn ballot r → IsReplicasRow births rows seat event base.core.id (Some r) (mailed from (Prepare (name_of r) ballot from_slot) (r, [])).0 → LeavesLead at births rows seat event base course

-- A group that follows its leader does so after each row in time of these kinds.
pub record RowsKeepFollowing : Type 0 where
  -- a row that does nothing in the group
  pub idle : (at : Sets) (words : ℕ → ℕ → ℕ × ℕ) (births : List (Seat Player)) (rows : Rows) (seat : Seat Player) (event : Event OrderLine) (base : Base) (course : Course) → ((slot : ℕ) → IsRoster (at slot))
      → AreInTime (players words births) (with_event rows seat event) → IsFollowedAt at words births rows base course → LeavesLead at births rows seat event base course → IsKind IsIdle births rows seat event base course course
      → IsFollowedAt at words births (with_event rows seat event) base course
  -- a row in which a node takes a mail
  pub takes : (at : Sets) (words : ℕ → ℕ → ℕ × ℕ) (births : List (Seat Player)) (rows : Rows) (seat : Seat Player) (event : Event OrderLine) (base : Base) (course : Course) → ((slot : ℕ) → IsRoster (at slot))
      → AreInTime (players words births) (with_event rows seat event) → IsFollowedAt at words births rows base course → LeavesLead at births rows seat event base course → IsKind (Takes at) births rows seat event base course course
      → IsFollowedAt at words births (with_event rows seat event) base course
  -- a row of the group's leader
  pub leads : (at : Sets) (words : ℕ → ℕ → ℕ × ℕ) (births : List (Seat Player)) (rows : Rows) (seat : Seat Player) (event : Event OrderLine) (base : Base) (course : Course) (r : ReplicaState) (after : Place) → ((slot : ℕ) → IsRoster (at slot))
      → AreInTime (players words births) (with_event rows seat event) → IsFollowedAt at words births rows base course → IsReplicasRow births rows seat event base.core.id (Some r) after → (led : LedBy at births rows seat event base course after)
      → IsFollowedAt at words births (with_event rows seat event) base (led_course led.bound course after.0)
  -- a row in which a node elects itself, and then leads in the course after it
  pub self_election : (at : Sets) (words : ℕ → ℕ → ℕ × ℕ) (births : List (Seat Player)) (rows : Rows) (seat : Seat Player) (event : Event OrderLine) (base : Base) (course : Course) (ballot : Ballot) (r : ReplicaState) (after : Place) → ((slot : ℕ) → IsRoster (at slot))
      → AreInTime (players words births) (with_event rows seat event) → IsFollowedAt at words births rows base course → IsReplicasRow births rows seat event base.core.id (Some r) after
      → IsKind (Elects at) births rows seat event base course (elected_course course ballot) → after.0.running ≡ true → IsLeadOf at (progress_at births (with_event rows seat event) base (elected_course course ballot)) after.0
      → IsFollowedAt at words births (with_event rows seat event) base (elected_course course ballot)

-- A group that follows its leader does so after an event that does nothing in the group.
pub record OthersKeepFollowing : Type 0 where
  pub alone : (at : Sets) (words : ℕ → ℕ → ℕ × ℕ) (births : List (Seat Player)) (rows : Rows) (seat : Seat Player) (event : Event OrderLine) (base : Base) (course : Course) → ((slot : ℕ) → IsRoster (at slot))
      → AreInTime (players words births) (with_event rows seat event) → IsFollowedAt at words births rows base course → LeavesAlone births rows seat event base → IsFollowedAt at words births (with_event rows seat event) base course
  -- an event that may create a replica at the group's birth, where the group is as it began until its first leader's node has one
  pub creation : (at : Sets) (words : ℕ → ℕ → ℕ × ℕ) (births : List (Seat Player)) (rows : Rows) (seat : Seat Player) (event : Event OrderLine) (base : Base) (course : Course) → ((slot : ℕ) → IsRoster (at slot))
      → AreInTime (players words births) (with_event rows seat event) → IsFollowedAt at words births rows base course → ((slot : ℕ) → slot < 1 + slots_ahead → at slot ≡ base.core.members) → is_member base.core.members base.core.first ≡ true → base.core.gone ≡ None
      → (view_at births rows base.core.id base.core.first ≡ None → course ≡ begun_course base) → LeavesOrCreates births rows seat event base → IsFollowedAt at words births (with_event rows seat event) base course
