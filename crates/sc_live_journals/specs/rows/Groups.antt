-- A group after some rows of players: its replicas, the marks of its mail under way, and how far it has come.
use Rattle.std.specs.Prelude.{◌≡◌, ℕ, ◌==◌, true, List, [], find, if◌then◌else◌, Option, Some, None}
use Rattle.sc_node_table.specs.Values.{Ballot, Draw, Base, OrderLine, Mail, Node, Client, Seat, Event, Deliver, Tick, Go, Crash, Drop, Again}
use Rattle.sc_base.specs.Definitions.{is_member}
use Rattle.sc_actor.specs.declared.rows.Event.TheVariants.{Told}
use Rattle.sc_actor.specs.Definitions.{numbered, value, System}
use Rattle.sc_live_orderly.specs.OrderlyDefinitions.{rest}
use Rattle.sc_node_table.specs.NodeDefinitions.{replica_of, ReplicaState, next, first_ballot}
use Rattle.sc_meaning.specs.sound.SoundDefinitions.{Player, player_table}
use Rattle.sc_live_steps.specs.calm.CalmDefinitions.{players, View, Rows}
use Rattle.sc_live_steps.specs.following.FollowingDefinitions.{Mark, mark_of, marks_of, Course, Progress, Sets, IsFollowing, IsLeadOf, begun}

-- The replicas of a player; a client has none.
abbrev pub replicas_of : Player → List ReplicaState
replicas_of (Node node) = node.replicas
replicas_of (Client client) = []

-- The replica of this group at the player of a seat after these rows, if it has one.
abbrev pub replica_in : Draw → Rows → Option (Seat Player) → Option ReplicaState
replica_in name rows None = None
replica_in name rows (Some seat) = replica_of name (replicas_of (value player_table seat rows))

-- The replica of this group at the player with this number after these rows, if it has one.
abbrev pub view_at : List (Seat Player) → Rows → View
view_at births rows name who = replica_in name rows (find (λ seat. seat.who == who) births)

-- The next slot of a node by its replica. Without one it is 1 for the group's first members, which create theirs when they learn of the split, and 0 for others.
abbrev pub next_in : Base → ℕ → Option ReplicaState → ℕ
next_in base who None = if is_member base.core.members who then 1 else 0
next_in base who (Some r) = next r

-- The ballot that a replica has promised; the group's first where there is no replica.
abbrev pub promise_in : Base → Option ReplicaState → Ballot
promise_in base None = first_ballot base.core
promise_in base (Some r) = r.acceptor.promised

-- How far the group that began as `base` has come after these rows, with this course.
abbrev pub progress_at : List (Seat Player) → Rows → Base → Course → Progress
progress_at births rows base course = record {
  next = λ who. next_in base who (view_at births rows base.core.id who);
  promise = λ who. promise_in base (view_at births rows base.core.id who);
  course = course;
}

-- The marks, for a group, of the mail that an actor has not taken yet.
abbrev pub marks_at : System Player Mail OrderLine → Rows → Draw → ℕ → List Mark
marks_at s rows name who = marks_of name (rest s rows who)

-- The mark, for a group, of a mail, if there is a mail and it has one.
abbrev pub mark_in : Draw → Option Mail → Option Mark
mark_in name None = None
mark_in name (Some mail) = mark_of name mail.from mail.body

-- The mark, for a group, of the mail that an event delivers, if it delivers one; `sent` is all mail sent before.
abbrev pub taken_mark : Draw → List Mail → Event OrderLine → Option Mark
taken_mark name sent (Deliver number) = mark_in name (numbered sent number)
taken_mark name sent Tick = None
taken_mark name sent Go = None
taken_mark name sent (Told order) = None
taken_mark name sent Crash = None
taken_mark name sent (Drop mail) = None
taken_mark name sent (Again mail) = None

-- The course of a group at its birth.
abbrev pub begun_course : Base → Course
begun_course base = (begun base.core.members (first_ballot base.core)).course

-- The replica of the course's leader leads; or it is not created yet, and the course is that of the birth.
abbrev pub IsLedBy : Base → Course → Option ReplicaState → Type 0
IsLedBy base course None = course ≡ begun_course base
IsLedBy base course (Some r) = r.running ≡ true

-- The course is right about the group after these rows: each replica that leads does so in this course, at the node of its ballot.
-- If the course says that a node leads, the replica there does, or is yet to be created.
pub record IsCourseOf (at : Sets) (births : List (Seat Player)) (rows : Rows) (base : Base) (course : Course) : Type 0 where
  pub gives : (node : ℕ) (r : ReplicaState) → view_at births rows base.core.id node ≡ Some r → r.running ≡ true → IsLeadOf at (progress_at births rows base course) r × (node ≡ course.ballot.node)
  pub runs : course.running ≡ true → IsLedBy base course (view_at births rows base.core.id course.ballot.node)

-- The group follows its leader after these rows, in this course.
pub record IsFollowedAt (at : Sets) (words : ℕ → ℕ → ℕ × ℕ) (births : List (Seat Player)) (rows : Rows) (base : Base) (course : Course) : Type 0 where
  pub follows : IsFollowing at (progress_at births rows base course) (marks_at (players words births) rows base.core.id)
  pub given : IsCourseOf at births rows base course

-- The group follows its leader after these rows, in some course.
abbrev pub FollowsOn : Sets → (ℕ → ℕ → ℕ × ℕ) → List (Seat Player) → Rows → Base → Type 0
FollowsOn at words births rows base = (course : Course) × IsFollowedAt at words births rows base course
