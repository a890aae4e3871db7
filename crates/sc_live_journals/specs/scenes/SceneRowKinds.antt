-- Which kinds of rows the rows of a group are, by what its replica's table does.
use Rattle.std.specs.Prelude.{◌≡◌, ℕ, true, false, List, [], ◌∷◌, if◌then◌else◌, Bool, Some, None}
use Rattle.sc_node_table.specs.Values.{Draw, OrderLine, Seat, Event}
use Rattle.sc_actor.specs.Definitions.{mails}
use Rattle.sc_node_table.specs.NodeDefinitions.{ReplicaState, Place}
use Rattle.sc_meaning.specs.sound.SoundDefinitions.{Player}
use Rattle.sc_live_steps.specs.calm.CalmDefinitions.{Rows}
use Rattle.sc_live_steps.specs.orders.OrderDefinitions.{Turn, First, Lone, Next, is_watch, Bond, Unbound, Asking, Errand, Question, Elsewhere, Reply, Work, Opens, Answers, Records, Ends, IsOnly, bound_by, IsOrder, GoesOn, Rests, IsTold, PassesOn, AsksOn, Files, work_for, results, Changed, Opened, Voted, Aborted, Decided, Heard, Ended, bond_of, works, errands_for, Works}
use Rattle.sc_live_journals.specs.rows.RowDefinitions.{view_at, with_event}
use Rattle.sc_live_journals.specs.scenes.JournalScenes.{scene_at, taken_errand}
use Rattle.sc_live_journals.specs.scenes.SceneRows.{errands_sent, IsSceneKind, NewestAreBound, IsTablesRow, LeadsAlone, NoneRuns}

-- ---- a replica that does not lead

-- The row leaves the group's bond, its work and its leader.
pub record Stays (births : List (Seat Player)) (rows : Rows) (seat : Seat Player) (event : Event OrderLine) (name : Draw) : Type 0 where
  pub bond : ((scene_at births (with_event rows seat event)).at name).bond ≡ ((scene_at births rows).at name).bond
  pub work : ((scene_at births (with_event rows seat event)).at name).work ≡ ((scene_at births rows).at name).work
  pub leads : GoesOn (scene_at births rows) (scene_at births (with_event rows seat event)) name

-- No replica of the group leads before the row, and its newest states have the same bond before and after it. If the acting node's replica leads after the row, it has no work, and its state has that bond.
pub record IsUnled (births : List (Seat Player)) (rows : Rows) (seat : Seat Player) (event : Event OrderLine) (name : Draw) (after : ReplicaState) : Type 0 where
  pub none : NoneRuns births rows name
  pub bond : Bond
  pub was : NewestAreBound births rows name bond
  pub has : NewestAreBound births (with_event rows seat event) name bond
  pub elected : after.running ≡ true → (works after ≡ []) × (bond_of after.group.core ≡ bond)

-- What leaves a group as it is: a row that leaves the acting node's replica of it, or its lack of one;
-- a row of a replica that does not lead after it, where another does; and a row where none leads.
pub record AsidesStay : Type 0 where
  pub missed : (births : List (Seat Player)) (rows : Rows) (seat : Seat Player) (event : Event OrderLine) (name : Draw)
      → view_at births (with_event rows seat event) name seat.who ≡ view_at births rows name seat.who → Stays births rows seat event name
  pub aside : (births : List (Seat Player)) (rows : Rows) (seat : Seat Player) (event : Event OrderLine) (name : Draw) (node : ℕ) (lead r : ReplicaState) (after : Place)
      → LeadsAlone births rows name node lead → (node ≡ seat.who → ⊥) → IsTablesRow births rows seat event name r after → after.0.running ≡ false → Stays births rows seat event name
  pub unled : (births : List (Seat Player)) (rows : Rows) (seat : Seat Player) (event : Event OrderLine) (name : Draw) (r : ReplicaState) (after : Place)
      → IsTablesRow births rows seat event name r after → IsUnled births rows seat event name after.0 → Stays births rows seat event name

-- A row that leaves the group does nothing of the order, if its mail is no errand and it sends none; and it sends a question back, if it takes one and sends `Elsewhere`.
pub record AsidesAre : Type 0 where
  pub rests : (births : List (Seat Player)) (rows : Rows) (seat : Seat Player) (event : Event OrderLine) (name : Draw) → Stays births rows seat event name
      → taken_errand (mails rows) event ≡ None → IsOnly [] [] (errands_sent rows seat event) → IsSceneKind Rests births rows seat event name
  pub passes : (births : List (Seat Player)) (rows : Rows) (seat : Seat Player) (event : Event OrderLine) (name : Draw) (tx coord : Draw) (watch : Bool) (by to : ℕ) → Stays births rows seat event name
      → taken_errand (mails rows) event ≡ Some (Question tx coord watch by to) → IsOnly [] ((coord, Elsewhere tx by ∷ []) ∷ []) (errands_sent rows seat event) → IsSceneKind PassesOn births rows seat event name

-- ---- the leader

-- A row of the one replica that leads, which has this work after it and sends these errands.
pub record IsLeadsRow (births : List (Seat Player)) (rows : Rows) (seat : Seat Player) (event : Event OrderLine) (name : Draw) (done : List Work) (sent : List (Draw × List Errand)) (r : ReplicaState) (after : Place) : Type 0 where
  pub leads : LeadsAlone births rows name seat.who r
  pub table : IsTablesRow births rows seat event name r after
  pub works_so : Works done sent r after

-- Which kind of row the leader's row is: one that does nothing of the order, takes an order, takes an errand as its work, or asks elsewhere.
pub record LeadersAre : Type 0 where
  pub rests : (births : List (Seat Player)) (rows : Rows) (seat : Seat Player) (event : Event OrderLine) (name : Draw) (r : ReplicaState) (after : Place) → IsLeadsRow births rows seat event name (works r) [] r after
      → taken_errand (mails rows) event ≡ None → IsSceneKind Rests births rows seat event name
  pub told : (births : List (Seat Player)) (rows : Rows) (seat : Seat Player) (event : Event OrderLine) (name : Draw) (order : Work) (r : ReplicaState) (after : Place) → IsLeadsRow births rows seat event name (order ∷ []) [] r after
      → works r ≡ [] → IsOrder order → taken_errand (mails rows) event ≡ None → IsSceneKind IsTold births rows seat event name
  pub files : (births : List (Seat Player)) (rows : Rows) (seat : Seat Player) (event : Event OrderLine) (name : Draw) (errand : Errand) (filed : Work) (r : ReplicaState) (after : Place)
      → IsLeadsRow births rows seat event name (filed ∷ []) [] r after → works r ≡ [] → taken_errand (mails rows) event ≡ Some errand → work_for errand ≡ Some filed → IsSceneKind Files births rows seat event name
  pub asks : (births : List (Seat Player)) (rows : Rows) (seat : Seat Player) (event : Event OrderLine) (name : Draw) (tx asked : Draw) (turn : Turn) (node to : ℕ) (r : ReplicaState) (after : Place)
      → IsLeadsRow births rows seat event name (works r) ((asked, Question tx name (is_watch turn) seat.who node ∷ []) ∷ []) r after → bond_of r.group.core ≡ Asking tx asked turn
      → taken_errand (mails rows) event ≡ Some (Elsewhere tx to) → IsSceneKind AsksOn births rows seat event name

-- ---- entries

-- A row in which the one leader executes a command that was its one work: the group has this bond after it, and the row sends these errands.
-- The leader leads on, or the group's newest states have this bond.
pub record IsEntrysRow (births : List (Seat Player)) (rows : Rows) (seat : Seat Player) (event : Event OrderLine) (name : Draw) (work : Work) (bond : Bond) (sent : List (Draw × List Errand)) (r : ReplicaState) (after : Place) : Type 0 where
  pub leads : LeadsAlone births rows name seat.who r
  pub table : IsTablesRow births rows seat event name r after
  pub none : taken_errand (mails rows) event ≡ None
  pub had : works r ≡ work ∷ []
  pub has : works after.0 ≡ []
  pub bound : bond_of after.0.group.core ≡ bond
  pub sends : IsOnly [] sent (λ other. errands_for other after.1)
  pub newest : (after.0.running ≡ false) → NewestAreBound births (with_event rows seat event) name bond

-- Which kind of row such a row is, by the work that is executed.
pub record EntriesAre : Type 0 where
  pub changed : (births : List (Seat Player)) (rows : Rows) (seat : Seat Player) (event : Event OrderLine) (name : Draw) (order : Work) (r : ReplicaState) (after : Place)
      → IsEntrysRow births rows seat event name order (bond_of r.group.core) [] r after → IsOrder order → IsSceneKind Changed births rows seat event name
  pub opened : (births : List (Seat Player)) (rows : Rows) (seat : Seat Player) (event : Event OrderLine) (name : Draw) (tx asked : Draw) (watch : Bool) (node : ℕ) (r : ReplicaState) (after : Place)
      → IsEntrysRow births rows seat event name (Opens tx) (Asking tx asked (if watch then Lone else First)) ((asked, Question tx name watch seat.who node ∷ []) ∷ []) r after
      → after.0.running ≡ true → (asked ≡ name → ⊥) → IsSceneKind Opened births rows seat event name
  pub voted : (births : List (Seat Player)) (rows : Rows) (seat : Seat Player) (event : Event OrderLine) (name : Draw) (tx coord : Draw) (watch agreed : Bool) (by : ℕ) (r : ReplicaState) (after : Place)
      → IsEntrysRow births rows seat event name (Answers tx coord watch by) (bound_by agreed tx) ((coord, Reply tx watch agreed seat.who by ∷ []) ∷ []) r after
      → bond_of r.group.core ≡ Unbound → after.0.running ≡ true → (watch ≡ true → agreed ≡ true) → IsSceneKind Voted births rows seat event name
  pub aborted : (births : List (Seat Player)) (rows : Rows) (seat : Seat Player) (event : Event OrderLine) (name : Draw) (tx : Draw) (by : ℕ) (r : ReplicaState) (after : Place)
      → IsEntrysRow births rows seat event name (Records tx false false by) Unbound [] r after → IsSceneKind Aborted births rows seat event name
  pub decided : (births : List (Seat Player)) (rows : Rows) (seat : Seat Player) (event : Event OrderLine) (name : Draw) (tx asked : Draw) (turn : Turn) (by : ℕ) (r : ReplicaState) (after : Place)
      → IsEntrysRow births rows seat event name (Records tx (is_watch turn) true by) Unbound (results tx asked turn by) r after → bond_of r.group.core ≡ Asking tx asked turn → IsSceneKind Decided births rows seat event name
  pub heard : (births : List (Seat Player)) (rows : Rows) (seat : Seat Player) (event : Event OrderLine) (name : Draw) (tx asked watcher : Draw) (by node : ℕ) (r : ReplicaState) (after : Place)
      → IsEntrysRow births rows seat event name (Records tx false true by) (Asking tx watcher (Next asked by)) ((watcher, Question tx name true seat.who node ∷ []) ∷ []) r after
      → bond_of r.group.core ≡ Asking tx asked First → after.0.running ≡ true → (watcher ≡ name → ⊥) × (watcher ≡ asked → ⊥) → IsSceneKind Heard births rows seat event name
  pub ended : (births : List (Seat Player)) (rows : Rows) (seat : Seat Player) (event : Event OrderLine) (name : Draw) (tx : Draw) (r : ReplicaState) (after : Place)
      → IsEntrysRow births rows seat event name (Ends tx) Unbound [] r after → IsSceneKind Ended births rows seat event name
