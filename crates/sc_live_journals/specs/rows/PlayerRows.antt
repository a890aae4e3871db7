-- What one row of players does to a group, as a row of the group's progress.
use Rattle.std.specs.Prelude.{◌≡◌, ℕ, ◌==◌, ◌≤◌, true, false, List, [], ◌∷◌, ◌++◌, length, find, Option, Some, None, ◌⊎◌}
use Rattle.sc_base.specs.Definitions.{Each, Drawer, is_member}
use Rattle.sc_node_table.specs.Values.{Draw, Base, OrderLine, Mail, MailBody, Install, Node, Client, Seat, Event, Deliver, Go, Input, Row}
use Rattle.sc_actor.specs.declared.rows.Event.TheVariants.{Told}
use Rattle.sc_actor.specs.Definitions.{mails, numbered, value, row_of}
use Rattle.sc_live_orderly.specs.OrderlyDefinitions.{AreInTime}
use Rattle.sc_client_table.specs.table.TableDefinitions.{Client as ClientState, table}
use Rattle.sc_node_table.specs.NodeDefinitions.{NodeState, replica_of, group_of_mail, may_come, absent, group_of_order, ordered_row, ReplicaState, Place, name_of, last_slot, born_replica, mailed, made_by, slots_ahead}
use Rattle.sc_meaning.specs.sound.SoundDefinitions.{Player, player_table}
use Rattle.sc_live_steps.specs.calm.CalmDefinitions.{players, Rows}
use Rattle.sc_live_steps.specs.following.FollowingDefinitions.{Mark, mark_of, Course, Progress, IsRow, IsIdle, marks_for}
use Rattle.sc_live_journals.specs.rows.Groups.{view_at, progress_at, marks_at, taken_mark}

-- Each row in time is a row of each group, whatever its course: the mark of the mail delivered is the first of its receiver's,
-- what the row sends to each node is appended to its mail, and the other nodes stay where they are.
abbrev pub RowsAreOfGroups : Type 0
RowsAreOfGroups =
    (words : ℕ → ℕ → ℕ × ℕ) (births : List (Seat Player)) (rows : Rows) (row : Row Mail OrderLine) (base : Base) (now after : Course) → AreInTime (players words births) (rows ++ row ∷ [])
    → IsRow (progress_at births rows base now) (progress_at births (rows ++ row ∷ []) base after) row.who (taken_mark base.core.id (mails rows) row.event) (λ who. marks_for base.core.id who row.sent)
    (marks_at (players words births) rows base.core.id) (marks_at (players words births) (rows ++ row ∷ []) base.core.id)

-- A replica keeps its group's name in each row of its table.
pub record NamesStay : Type 0 where
  pub mailed : (from : ℕ) (body : MailBody) (r : ReplicaState) → name_of (mailed from body (r, [])).0.0 ≡ name_of r
  pub ordered : (drawer : Drawer) (line : OrderLine) (r : ReplicaState) → name_of (ordered_row drawer line (r, [])).0 ≡ name_of r
  pub made : (me from : ℕ) (group : Draw) (slot : ℕ) (base : Base) (sets : List (List ℕ)) → name_of (made_by me from group slot base sets).0 ≡ group

-- What a replica sends has no mark for another group. What a node answers to mail of a group of which it has no replica, and what a client sends, has no mark at all.
pub record OthersHearNothing : Type 0 where
  pub mailed : (name : Draw) (who from : ℕ) (body : MailBody) (r : ReplicaState) → (name_of r ≡ name → ⊥) → marks_for name who (mailed from body (r, [])).0.1 ≡ []
  pub ordered : (name : Draw) (who : ℕ) (drawer : Drawer) (line : OrderLine) (r : ReplicaState) → (name_of r ≡ name → ⊥) → marks_for name who (ordered_row drawer line (r, [])).1 ≡ []
  pub made : (name : Draw) (who me from : ℕ) (group : Draw) (slot : ℕ) (base : Base) (sets : List (List ℕ)) → (group ≡ name → ⊥) → marks_for name who (made_by me from group slot base sets).1 ≡ []
  pub missed : (name : Draw) (who me from : ℕ) (body : MailBody) → marks_for name who (absent me from body) ≡ []
  pub client : (name : Draw) (who : ℕ) (client : ClientState) (input : Input Mail OrderLine) → marks_for name who (table client input).1 ≡ []

-- The seat is one of these births.
abbrev pub IsSeat : List (Seat Player) → Seat Player → Type 0
IsSeat births seat = find (λ other. other.who == seat.who) births ≡ Some seat

-- These rows, with the row of this seat's event appended.
abbrev pub with_event : Rows → Seat Player → Event OrderLine → Rows
with_event rows seat event = rows ++ row_of player_table seat rows event ∷ []

-- The row of this seat's event is of this kind in the group, with these courses before and after it.
abbrev pub IsKind : (Progress → Progress → ℕ → Option Mark → (ℕ → List Mark) → Type 0) → List (Seat Player) → Rows → Seat Player → Event OrderLine → Base → Course → Course → Type 0
IsKind Kind births rows seat event base now after =
    Kind (progress_at births rows base now) (progress_at births (with_event rows seat event) base after) seat.who (taken_mark base.core.id (mails rows) event) (λ who. marks_for base.core.id who (row_of player_table seat rows event).sent)

-- The row of this seat's event does nothing in the group, whatever its course.
abbrev pub IsIdleIn : List (Seat Player) → Rows → Seat Player → Event OrderLine → Base → Type 0
IsIdleIn births rows seat event base = (course : Course) → IsKind IsIdle births rows seat event base course course

-- The row of this seat's event does nothing in the group, and leaves the node's replica of it as it was.
pub record LeavesAlone (births : List (Seat Player)) (rows : Rows) (seat : Seat Player) (event : Event OrderLine) (base : Base) : Type 0 where
  pub idle : IsIdleIn births rows seat event base
  pub view : view_at births (with_event rows seat event) base.core.id seat.who ≡ view_at births rows base.core.id seat.who

-- The replica is as it was, or is created at the group's birth.
abbrev pub IsBornOr : Base → ℕ → Option ReplicaState → Option ReplicaState → Type 0
IsBornOr base who now before = (now ≡ before) ⊎ ((before ≡ None) × (now ≡ Some (born_replica slots_ahead who base)))

-- The row of this seat's event does nothing in the group, but may create the node's replica at the group's birth.
pub record LeavesOrCreates (births : List (Seat Player)) (rows : Rows) (seat : Seat Player) (event : Event OrderLine) (base : Base) : Type 0 where
  pub idle : IsIdleIn births rows seat event base
  pub view : IsBornOr base seat.who (view_at births (with_event rows seat event) base.core.id seat.who) (view_at births rows base.core.id seat.who)

-- The children that a mail creates at a node, by its replica of the mail's group.
abbrev pub made_children : Option ReplicaState → ℕ → MailBody → List Base
made_children None from body = []
made_children (Some r) from body = (mailed from body (r, [])).1

-- Each of these children that has the group's name is the group as it began, with this node as a member.
abbrev pub AreAsBegun : Base → ℕ → List Base → Type 0
AreAsBegun base who children = Each (λ child. child.core.id ≡ base.core.id → (child ≡ base) × (is_member base.core.members who ≡ true)) children

-- Which events do nothing in a group.
pub record OthersRowsAreIdle : Type 0 where
  -- an event of a client: a mail without a mark, or its `go`
  pub client : (births : List (Seat Player)) (rows : Rows) (seat : Seat Player) (event : Event OrderLine) (base : Base) (client : ClientState) → IsSeat births seat → value player_table seat rows ≡ Client client
      → taken_mark base.core.id (mails rows) event ≡ None → LeavesAlone births rows seat event base
  -- a node's mail of another group; it may create a replica of this group at its birth
  pub other : (births : List (Seat Player)) (rows : Rows) (seat : Seat Player) (number : ℕ) (mail : Mail) (base : Base) (group : Draw) (node : NodeState) → IsSeat births seat → value player_table seat rows ≡ Node node → node.me ≡ seat.who
      → numbered (mails rows) number ≡ Some mail → group_of_mail mail.body ≡ Some group → (group ≡ base.core.id → ⊥) → AreAsBegun base seat.who (made_children (replica_of group node.replicas) mail.from mail.body)
      → LeavesOrCreates births rows seat (Deliver number) base
  -- a node's mail of no group
  pub stray : (births : List (Seat Player)) (rows : Rows) (seat : Seat Player) (number : ℕ) (mail : Mail) (base : Base) (node : NodeState) → IsSeat births seat → value player_table seat rows ≡ Node node
      → numbered (mails rows) number ≡ Some mail → group_of_mail mail.body ≡ None → LeavesAlone births rows seat (Deliver number) base
  -- a node's mail of this group, without a mark, where it has no replica of it or the mail comes from one that may not send it
  pub missed : (births : List (Seat Player)) (rows : Rows) (seat : Seat Player) (number : ℕ) (mail : Mail) (base : Base) (node : NodeState) → IsSeat births seat → value player_table seat rows ≡ Node node
      → numbered (mails rows) number ≡ Some mail → mark_of base.core.id mail.from mail.body ≡ None → group_of_mail mail.body ≡ Some base.core.id → replica_of base.core.id node.replicas ≡ None → LeavesAlone births rows seat (Deliver number) base
  pub barred : (births : List (Seat Player)) (rows : Rows) (seat : Seat Player) (number : ℕ) (mail : Mail) (base : Base) (node : NodeState) → IsSeat births seat → value player_table seat rows ≡ Node node
      → numbered (mails rows) number ≡ Some mail → mark_of base.core.id mail.from mail.body ≡ None → may_come mail.from mail.body ≡ false → LeavesAlone births rows seat (Deliver number) base
  -- an order to a node, for another group, or for one of which it has no replica
  pub ordered : (births : List (Seat Player)) (rows : Rows) (seat : Seat Player) (line : OrderLine) (base : Base) (node : NodeState) → IsSeat births seat → value player_table seat rows ≡ Node node
      → (group_of_order line.order ≡ base.core.id → ⊥) → LeavesAlone births rows seat (Told line) base
  pub refused : (births : List (Seat Player)) (rows : Rows) (seat : Seat Player) (line : OrderLine) (base : Base) (node : NodeState) → IsSeat births seat → value player_table seat rows ≡ Node node
      → replica_of (group_of_order line.order) node.replicas ≡ None → LeavesAlone births rows seat (Told line) base
  -- a `Go` at a node
  pub go : (births : List (Seat Player)) (rows : Rows) (seat : Seat Player) (base : Base) (node : NodeState) → IsSeat births seat → value player_table seat rows ≡ Node node → LeavesAlone births rows seat Go base

-- In this row the acting player's replica of the group changes as its own table says, and the row sends what that table sends.
pub record IsReplicasRow (births : List (Seat Player)) (rows : Rows) (seat : Seat Player) (event : Event OrderLine) (name : Draw) (before : Option ReplicaState) (after : Place) : Type 0 where
  pub was : view_at births rows name seat.who ≡ before
  pub fact : view_at births (with_event rows seat event) name seat.who ≡ Some after.0
  pub sends_all : (row_of player_table seat rows event).sent ≡ after.1
  pub sends : (who : ℕ) → marks_for name who (row_of player_table seat rows event).sent ≡ marks_for name who after.1

-- A state with the members of as many slots as are open, after a slot that is not behind the last one.
pub record IsWholeState (slot : ℕ) (sets : List (List ℕ)) : Type 0 where
  pub open_ : length sets ≡ slots_ahead
  pub low : slot ≤ last_slot

-- Rows of a node that are its replica's rows (`IsReplicasRow`).
pub record RowsAreReplicas : Type 0 where
  -- a mail at a node with a replica of the mail's group
  pub taken : (births : List (Seat Player)) (rows : Rows) (seat : Seat Player) (number : ℕ) (mail : Mail) (group : Draw) (node : NodeState) (r : ReplicaState) → IsSeat births seat → value player_table seat rows ≡ Node node
      → numbered (mails rows) number ≡ Some mail → may_come mail.from mail.body ≡ true → group_of_mail mail.body ≡ Some group → replica_of group node.replicas ≡ Some r
      → IsReplicasRow births rows seat (Deliver number) group (Some r) (mailed mail.from mail.body (r, [])).0
  -- a state at a node that creates a replica from it
  pub made : (births : List (Seat Player)) (rows : Rows) (seat : Seat Player) (number : ℕ) (mail : Mail) (group : Draw) (slot : ℕ) (base : Base) (sets : List (List ℕ)) (node : NodeState) → IsSeat births seat → value player_table seat rows ≡ Node node
      → numbered (mails rows) number ≡ Some mail → may_come mail.from mail.body ≡ true → mail.body ≡ Install group slot base sets → IsWholeState slot sets → replica_of group node.replicas ≡ None
      → IsReplicasRow births rows seat (Deliver number) group None (made_by node.me mail.from group slot base sets)
  -- an order at a node with a replica of the order's group
  pub ordered : (births : List (Seat Player)) (rows : Rows) (seat : Seat Player) (line : OrderLine) (node : NodeState) (r : ReplicaState) → IsSeat births seat → value player_table seat rows ≡ Node node
      → replica_of (group_of_order line.order) node.replicas ≡ Some r → IsReplicasRow births rows seat (Told line) (group_of_order line.order) (Some r) (ordered_row node.draws line (r, []))
