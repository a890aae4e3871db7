-- A group that is well led after some rows of players: it follows its leader, its nodes take that one for the leader, and what the leader has in flight is in order.
use Rattle.std.specs.Prelude.{◌≡◌, ℕ, ◌≤◌, Bool, true, List, Option, Some, None}
use Rattle.sc_node_table.specs.Values.{Draw, Base, OrderLine, Mail, Seat}
use Rattle.sc_actor.specs.Definitions.{System}
use Rattle.sc_live_orderly.specs.OrderlyDefinitions.{rest}
use Rattle.sc_node_table.specs.NodeDefinitions.{ReplicaState}
use Rattle.sc_meaning.specs.sound.SoundDefinitions.{Player}
use Rattle.sc_live_steps.specs.calm.CalmDefinitions.{players, Rows}
use Rattle.sc_live_steps.specs.following.FollowingDefinitions.{Dated, dated_of, IsAskedLow, Course, Sets, SlotLeaders, IsHeeding, IsOrderly, IsOwnFirst}
use Rattle.sc_live_journals.specs.rows.RowDefinitions.{view_at, progress_at, marks_at, begun_course, IsFollowedAt}

-- Whom a replica takes for the leader; where there is no replica yet, the group's first leader.
abbrev pub hint_in : Base → Option ReplicaState → Option ℕ
hint_in base None = Some base.core.first
hint_in base (Some r) = r.hint

-- Whom each node takes for the leader of the group after these rows.
abbrev pub hints_at : List (Seat Player) → Rows → Base → ℕ → Option ℕ
hints_at births rows base who = hint_in base (view_at births rows base.core.id who)

-- The marks, for a group, of the mail that an actor has not taken, each with the slot from which it asks to promise.
abbrev pub dated_at : System Player Mail OrderLine → Rows → Draw → ℕ → List Dated
dated_at s rows name who = dated_of name (rest s rows who)

-- For each slot: whether the group is gone in the state in which that slot is the next one.
abbrev pub Ends : Type 0
Ends = ℕ → Bool

-- The group follows its leader in this course; its nodes take the one that leads for the leader; no node is asked to promise from a slot below its next one;
-- a leader takes its own Prepare before it executes an entry; what a leader has in flight and ready is in order;
-- the group is as it began until its first leader's node has a replica; and it is gone where the log says so, and no entry comes after that.
pub record IsWellLed (at : Sets) (over : Ends) (by : SlotLeaders) (words : ℕ → ℕ → ℕ × ℕ) (births : List (Seat Player)) (rows : Rows) (base : Base) (course : Course) : Type 0 where
  pub followed : IsFollowedAt at words births rows base course
  pub heeded : IsHeeding at by (progress_at births rows base course) (hints_at births rows base) (marks_at (players words births) rows base.core.id)
  pub low : IsAskedLow (progress_at births rows base course) (dated_at (players words births) rows base.core.id)
  pub own : IsOwnFirst (progress_at births rows base course) (marks_at (players words births) rows base.core.id)
  pub orderly : (node : ℕ) (r : ReplicaState) → view_at births rows base.core.id node ≡ Some r → r.running ≡ true → IsOrderly r
  pub young : view_at births rows base.core.id base.core.first ≡ None → course ≡ begun_course base
  pub ends : course.gone ≡ over course.newest
  pub rests : (slot : ℕ) → over slot ≡ true → course.newest ≤ slot

-- The group is well led after these rows, in some course.
abbrev pub IsLedOn : Sets → Ends → SlotLeaders → (ℕ → ℕ → ℕ × ℕ) → List (Seat Player) → Rows → Base → Type 0
IsLedOn at over by words births rows base = (course : Course) × IsWellLed at over by words births rows base course
