-- What one row of players does to the scene: in the group of its mail or order, and in the groups of which it creates replicas.
use Rattle.std.specs.Prelude.{◌≡◌, ℕ, ◌==◌, ◌≤◌, true, false, List, [], Some, None, ◌⊎◌}
use Rattle.sc_node_table.specs.Values.{Draw, Base, Free, OrderLine, Seat, Event}
use Rattle.sc_actor.specs.Definitions.{mails, row_of}
use Rattle.sc_live_orderly.specs.OrderlyDefinitions.{AreInTime}
use Rattle.sc_node_table.specs.NodeDefinitions.{ReplicaState, Place, next, born_replica, slots_ahead}
use Rattle.sc_meaning.specs.sound.SoundDefinitions.{Player, player_table}
use Rattle.sc_live_steps.specs.calm.CalmDefinitions.{players, Rows}
use Rattle.sc_live_steps.specs.orders.OrderDefinitions.{Bond, Unbound, Errand, IsRow, Kind, bond_of, works, errands_for}
use Rattle.sc_live_journals.specs.rows.RowDefinitions.{view_at, IsSeat, with_event}
use Rattle.sc_live_journals.specs.scenes.JournalScenes.{scene_at, errand_taken, taken_errand}

-- The errands that the row of this event sends to a group.
abbrev pub errands_sent : Rows → Seat Player → Event OrderLine → Draw → List Errand
errands_sent rows seat event name = errands_for name (row_of player_table seat rows event).sent

-- The row of this event is of this kind in the group.
abbrev pub IsSceneKind : Kind → List (Seat Player) → Rows → Seat Player → Event OrderLine → Draw → Type 0
IsSceneKind Does births rows seat event name = Does (scene_at births rows) (scene_at births (with_event rows seat event)) name (taken_errand (mails rows) event) (errands_sent rows seat event)

-- Each replica of the group that has executed as much as any has this bond.
abbrev pub NewestAreBound : List (Seat Player) → Rows → Draw → Bond → Type 0
NewestAreBound births rows name bond =
    (node : ℕ) (r : ReplicaState) → view_at births rows name node ≡ Some r
    → ((other : ℕ) (x : ReplicaState) → view_at births rows name other ≡ Some x → next x ≤ next r) → bond_of r.group.core ≡ bond

-- The row creates a replica at the group's birth: the group is free, and its newest states were bound by nothing; and the replica does not lead, or none led before.
pub record Creates (births : List (Seat Player)) (rows : Rows) (seat : Seat Player) (event : Event OrderLine) (name : Draw) : Type 0 where
  pub base : Base
  pub none : view_at births rows name seat.who ≡ None
  pub makes : view_at births (with_event rows seat event) name seat.who ≡ Some (born_replica slots_ahead seat.who base)
  pub free : base.core.lock ≡ Free
  pub newest : NewestAreBound births rows name Unbound
  pub first : ((base.core.first == seat.who) ≡ false) ⊎ ((scene_at births rows).lead name ≡ None)

-- The row leaves the acting player's replica of the group, or creates one at the group's birth.
abbrev pub LeavesOrMakes : List (Seat Player) → Rows → Seat Player → Event OrderLine → Draw → Type 0
LeavesOrMakes births rows seat event name = (view_at births (with_event rows seat event) name seat.who ≡ view_at births rows name seat.who) ⊎ Creates births rows seat event name

-- A row in time of this group: the errand that it takes, if it takes one, is for the group.
-- In every other group it leaves the acting player's replica, or creates one at the group's birth.
pub record IsOfGroup (words : ℕ → ℕ → ℕ × ℕ) (births : List (Seat Player)) (rows : Rows) (seat : Seat Player) (event : Event OrderLine) (name : Draw) : Type 0 where
  pub seated : IsSeat births seat
  pub timely : AreInTime (players words births) (with_event rows seat event)
  pub own : (entry : Draw × Errand) → errand_taken (mails rows) event ≡ Some entry → entry.0 ≡ name
  pub others : (other : Draw) → (other ≡ name → ⊥) → LeavesOrMakes births rows seat event other

-- Each row of a group is a row of the scene (`IsRow`).
abbrev pub RowsAreOfScenes : Type 0
RowsAreOfScenes = (words : ℕ → ℕ → ℕ × ℕ) (births : List (Seat Player)) (rows : Rows) (seat : Seat Player) (event : Event OrderLine) (name : Draw) → IsOfGroup words births rows seat event name → IsSceneKind IsRow births rows seat event name

-- In this row the acting player's replica of the group changes as its own table says, and the row sends what that table sends.
pub record IsTablesRow (births : List (Seat Player)) (rows : Rows) (seat : Seat Player) (event : Event OrderLine) (name : Draw) (before : ReplicaState) (after : Place) : Type 0 where
  pub was : view_at births rows name seat.who ≡ Some before
  pub fact : view_at births (with_event rows seat event) name seat.who ≡ Some after.0
  pub sends : (row_of player_table seat rows event).sent ≡ after.1

-- The replica at this node leads its group, and no other does.
pub record LeadsAlone (births : List (Seat Player)) (rows : Rows) (name : Draw) (node : ℕ) (r : ReplicaState) : Type 0 where
  pub is_there : view_at births rows name node ≡ Some r
  pub running : r.running ≡ true
  pub alone : (other : ℕ) (x : ReplicaState) → view_at births rows name other ≡ Some x → x.running ≡ true → other ≡ node

-- No replica of the group leads.
abbrev pub NoneRuns : List (Seat Player) → Rows → Draw → Type 0
NoneRuns births rows name = (node : ℕ) (r : ReplicaState) → view_at births rows name node ≡ Some r → r.running ≡ false

-- What a scene says of a group that one replica leads, and of a group that has a replica but no leader.
pub record ScenesDescribe : Type 0 where
  pub led : (births : List (Seat Player)) (rows : Rows) (name : Draw) (node : ℕ) (r : ReplicaState) → LeadsAlone births rows name node r
      → ((scene_at births rows).lead name ≡ Some node) × ((((scene_at births rows).at name).bond ≡ bond_of r.group.core) × (((scene_at births rows).at name).work ≡ works r))
  pub idle : (births : List (Seat Player)) (rows : Rows) (name : Draw) (bond : Bond) (node : ℕ) (r : ReplicaState) → NoneRuns births rows name → NewestAreBound births rows name bond → view_at births rows name node ≡ Some r
      → ((scene_at births rows).lead name ≡ None) × ((((scene_at births rows).at name).bond ≡ bond) × (((scene_at births rows).at name).work ≡ []))
