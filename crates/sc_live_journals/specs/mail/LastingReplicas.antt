-- A node that has a replica of a group keeps one, whose greatest ballot and next slot never fall.
use Rattle.std.specs.Prelude.{◌≡◌, ℕ, ◌≤◌, ◌++◌, Option, Some}
use Rattle.sc_node_table.specs.Values.{Draw}
use Rattle.sc_live_orderly.specs.OrderlyDefinitions.{AreInTime}
use Rattle.sc_words.specs.paxos.PaxosDefinitions.{IsAtLeast}
use Rattle.sc_scenario.specs.declared.scenario.scenarios.Scenario.{Scenario}
use Rattle.sc_node_table.specs.NodeDefinitions.{ReplicaState, next}
use Rattle.sc_meaning.specs.sound.SoundDefinitions.{births, as_nodes}
use Rattle.sc_live_steps.specs.calm.CalmDefinitions.{players, Rows}
use Rattle.sc_live_journals.specs.rows.RowDefinitions.{view_at}

-- The later replica has seen no lower ballot, and has executed no fewer entries.
abbrev pub HasGrown : ReplicaState → ReplicaState → Type 0
HasGrown r later = IsAtLeast later.top r.top × (next r ≤ next later)

-- There is a replica, and it is later than `r`.
abbrev pub IsLater : ReplicaState → Option ReplicaState → Type 0
IsLater r o = (later : ReplicaState) × (o ≡ Some later) × HasGrown r later

-- A node of a scenario that has a replica of a group after some rows has a later one after more rows, if all come in time.
abbrev pub ReplicasLast : Type 0
ReplicasLast =
    (words : ℕ → ℕ → ℕ × ℕ) (scenario : Scenario) (rows more : Rows) (name : Draw) (who : ℕ) (r : ReplicaState) → AreInTime (players words (births as_nodes scenario)) (rows ++ more) → view_at (births as_nodes scenario) rows name who ≡ Some r
    → IsLater r (view_at (births as_nodes scenario) (rows ++ more) name who)
