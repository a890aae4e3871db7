-- What is known of each group at a row of a calm journal: who leads it, and what its newest replicas are bound by.
use Rattle.std.specs.Prelude.{List, Some, [], false, true, ℕ, ◌≡◌, ◌≤◌, ◌⊎◌}
use Rattle.sc_actor.specs.Definitions.{is_quiet}
use Rattle.sc_node_table.specs.Values.{Seat, Event, Draw, Base, OrderLine}
use Rattle.sc_live_journals.specs.groups.GroupDefinitions.{AreKeptBorn, IsLedStep, Ends, IsWellLed, HasOneLog, IsSentSo}
use Rattle.sc_live_steps.specs.calm.CalmDefinitions.{players, Rows}
use Rattle.sc_live_steps.specs.orders.OrderDefinitions.{bond_of, works_in, Bond, IsUnbound}
use Rattle.sc_live_journals.specs.rows.RowDefinitions.{marks_at, view_at, with_event}
use Rattle.sc_live_journals.specs.scenes.SceneDefinitions.{IsThere, HasNothing, LeadsAlone, NewestAreBound, NoneRuns}
use Rattle.sc_live_steps.specs.following.FollowingDefinitions.{Course, Sets, SlotLeaders}
use Rattle.sc_base.specs.Definitions.{IsRoster}
use Rattle.sc_node_table.specs.NodeDefinitions.{ReplicaState, last_slot, next}
use Rattle.sc_live_orderly.specs.OrderlyDefinitions.{is_born, AreInTime}
use Rattle.sc_meaning.specs.sound.SoundDefinitions.{Player}

-- after some rows each replica of a group is bound by what `bonds` says of its next slot
abbrev pub AreBoundBy : (ℕ → Bond) → List (Seat Player) → Rows → Draw → Type 0
AreBoundBy bonds births rows name = (node : ℕ) (r : ReplicaState) → view_at births rows name node ≡ Some r → bond_of r.group.core ≡ bonds (next r)

-- some replica of the group has executed all that any has executed by the course
abbrev pub IsReached : List (Seat Player) → Rows → Base → Course → Type 0
IsReached births rows base course = (node : ℕ) × (r : ReplicaState) × (view_at births rows base.core.id node ≡ Some r) × (next r ≡ course.newest)

-- where the group has a replica, some replica has executed all that any has executed by the course
abbrev pub IsReachedSo : List (Seat Player) → Rows → Base → Course → Type 0
IsReachedSo births rows base course = IsThere births rows base.core.id → IsReached births rows base course

-- a group is guided at a row: it is well led before the row and after it; up to the row its log is one and its mail is as `IsSentSo` says; what a replica is bound by depends only on how much it has executed, before the row and after it; and some replica has the newest state
pub record IsGuided (words : ℕ → ℕ → ℕ × ℕ) (births : List (Seat Player)) (rows : Rows) (seat : Seat Player) (event : Event OrderLine) (base : Base) : Type 0 where
  pub at : Sets
  pub over : Ends
  pub by : SlotLeaders
  pub course : Course
  pub led : IsWellLed at over by words births rows base course
  pub step : IsLedStep at over by words births rows seat event base course
  pub log : HasOneLog at over by births (with_event rows seat event) base
  pub sends : IsSentSo births (with_event rows seat event) base
  pub bonds : ℕ → Bond
  pub was_bound : AreBoundBy bonds births rows base.core.id
  pub is_bound : AreBoundBy bonds births (with_event rows seat event) base.core.id
  pub reached : IsReachedSo births rows base course

-- a group with this name is guided at the row
pub record IsNamedGuide (words : ℕ → ℕ → ℕ × ℕ) (births : List (Seat Player)) (rows : Rows) (seat : Seat Player) (event : Event OrderLine) (name : Draw) : Type 0 where
  pub base : Base
  pub named : base.core.id ≡ name
  pub guided : IsGuided words births rows seat event base

-- ---- who leads

-- one replica of the group leads alone, or none runs
abbrev pub LeadsOrNone : List (Seat Player) → Rows → Draw → Type 0
LeadsOrNone births rows name = ((node : ℕ) × (lead : ReplicaState) × LeadsAlone births rows name node lead) ⊎ NoneRuns births rows name

-- a well led group has a replica that leads alone and is bound by no report, or none runs; and each replica that runs is that one
pub record WellLedLeadAlone : Type 0 where
  pub alone : (at : Sets) (over : Ends) (by : SlotLeaders) (words : ℕ → ℕ → ℕ × ℕ) (births : List (Seat Player)) (rows : Rows) (base : Base) (course : Course) (node : ℕ) (r : ReplicaState) → IsWellLed at over by words births rows base course
      → view_at births rows base.core.id node ≡ Some r → r.running ≡ true → LeadsAlone births rows base.core.id node r × IsUnbound r
  pub one : (at : Sets) (over : Ends) (by : SlotLeaders) (words : ℕ → ℕ → ℕ × ℕ) (births : List (Seat Player)) (rows : Rows) (base : Base) (course : Course) → IsWellLed at over by words births rows base course
      → LeadsOrNone births rows base.core.id

-- a replica has an act or an order waiting only while it has a command in flight
abbrev pub WaitsForFlights : ReplicaState → Type 0
WaitsForFlights r = r.leader.flights ≡ [] → (works_in r.acts ≡ []) × (works_in r.backlog ≡ [])

-- in a quiet journal each replica of a well led group that runs has nothing waiting, in flight or ready, where slots are left, no mail of the group is for a number that is no player, and acts wait only for flights
abbrev pub QuietLeadersHaveNothing : Type 0
QuietLeadersHaveNothing =
    (at : Sets) (over : Ends) (by : SlotLeaders) (words : ℕ → ℕ → ℕ × ℕ) (births : List (Seat Player)) (rows : Rows) (base : Base) (course : Course) (node : ℕ) (r : ReplicaState) → AreKeptBorn births → ((slot : ℕ) → IsRoster (at slot)) → AreInTime (players words births) rows
    → is_quiet (players words births) rows ≡ true → ((who : ℕ) → is_born (players words births) who ≡ false → marks_at (players words births) rows base.core.id who ≡ []) → IsWellLed at over by words births rows base course
    → view_at births rows base.core.id node ≡ Some r → r.running ≡ true → next r ≤ last_slot → WaitsForFlights r → HasNothing r

-- ---- the newest state

-- the newest replicas are bound as the newest state is, before a row and after it, and some replica has that state; and the row adds no newer state where no replica runs
pub record NewestStay : Type 0 where
  pub was : (words : ℕ → ℕ → ℕ × ℕ) (births : List (Seat Player)) (rows : Rows) (seat : Seat Player) (event : Event OrderLine) (base : Base) (g : IsGuided words births rows seat event base) → IsThere births rows base.core.id
      → NewestAreBound births rows base.core.id (g.bonds g.course.newest)
  pub stays : (words : ℕ → ℕ → ℕ × ℕ) (births : List (Seat Player)) (rows : Rows) (seat : Seat Player) (event : Event OrderLine) (base : Base) (g : IsGuided words births rows seat event base) → IsThere births rows base.core.id
      → AreInTime (players words births) (with_event rows seat event) → NewestAreBound births (with_event rows seat event) base.core.id (g.bonds g.step.later.newest)
  pub reached : (words : ℕ → ℕ → ℕ × ℕ) (births : List (Seat Player)) (rows : Rows) (seat : Seat Player) (event : Event OrderLine) (base : Base) (g : IsGuided words births rows seat event base) → IsThere births rows base.core.id
      → AreInTime (players words births) (with_event rows seat event) → IsReached births (with_event rows seat event) base g.step.later
  pub unled : (words : ℕ → ℕ → ℕ × ℕ) (births : List (Seat Player)) (rows : Rows) (seat : Seat Player) (event : Event OrderLine) (base : Base) (g : IsGuided words births rows seat event base) → NoneRuns births rows base.core.id
      → g.step.later.newest ≡ g.course.newest
