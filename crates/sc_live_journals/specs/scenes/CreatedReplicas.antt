-- An order stays under way where a node creates its replica from a state that it is sent.
use Rattle.std.specs.Prelude.{◌≡◌, ℕ, true, List, Some}
use Rattle.sc_node_table.specs.Values.{Draw, Base, OrderLine, Mail, Install, Seat, Event, Deliver}
use Rattle.sc_base.specs.Definitions.{is_member}
use Rattle.sc_node_table.specs.NodeDefinitions.{ReplicaState}
use Rattle.sc_meaning.specs.sound.SoundDefinitions.{Player}
use Rattle.sc_live_steps.specs.calm.CalmDefinitions.{Rows}
use Rattle.sc_live_steps.specs.orders.OrderDefinitions.{Bond}
use Rattle.sc_live_journals.specs.rows.RowDefinitions.{view_at, with_event, IsWholeState}
use Rattle.sc_live_journals.specs.scenes.SceneRows.{NewestAreBound, LeadsAlone, NoneRuns}
use Rattle.sc_live_journals.specs.scenes.OrderRows.{KeepsStage, ComesToNone}

-- What is needed of a group of which a row creates a replica: another replica leads it alone;
-- or none leads, some node has a replica, and the newest states have the same bond before and after the row.
pub data MayJoin (births : List (Seat Player)) (rows : Rows) (seat : Seat Player) (event : Event OrderLine) (group : Draw) : Type 0 where
  Led : (node : ℕ) (lead : ReplicaState) → LeadsAlone births rows group node lead → MayJoin births rows seat event group
  Unled : (bond : Bond) (node : ℕ) (other : ReplicaState) → NoneRuns births rows group → NewestAreBound births rows group bond → NewestAreBound births (with_event rows seat event) group bond
      → view_at births rows group node ≡ Some other → MayJoin births rows seat event group

-- A row in which a node creates a replica from a whole state, sent by a member of it, keeps an order under way.
abbrev pub StatesKeep : Type 0
StatesKeep =
    (words : ℕ → ℕ → ℕ × ℕ) (births : List (Seat Player)) (rows : Rows) (seat : Seat Player) (number : ℕ) (mail : Mail) (group : Draw) (slot : ℕ) (base : Base) (sets : List (List ℕ))
    → ComesToNone words births rows seat number mail group → mail.body ≡ Install group slot base sets → IsWholeState slot sets → is_member base.core.members mail.from ≡ true → MayJoin births rows seat (Deliver number) group
    → KeepsStage births rows seat (Deliver number)
