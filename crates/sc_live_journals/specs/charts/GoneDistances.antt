-- How far groups that are gone are from those that stand.
use Rattle.std.specs.Prelude.{◌≡◌, ℕ, ◌+◌, ◌<◌, ◌≤◌, length, List, Some, is_some, true}
use Rattle.sc_node_table.specs.Values.{Draw, Route}
use Rattle.sc_node_table.specs.NodeDefinitions.{ReplicaState}
use Rattle.sc_live_journals.specs.charts.Charts.{went_in, ends_by}

-- Groups go one after another: each has a number below that of the names, and goes into one that stands or has a greater number.
abbrev pub GoInTurn : List Draw → List ReplicaState → (Draw → ℕ) → Type 0
GoInTurn names replicas turn =
    (group : Draw) (into : Route) → went_in group replicas ≡ Some into → (turn group < length names) × (is_some (went_in into.group replicas) ≡ true → turn group < turn into.group)

-- Each group that is gone is at least one farther from one that stands than the group that it went into.
abbrev pub EndsFall : Type 0
EndsFall =
    (names : List Draw) (replicas : List ReplicaState) (turn : Draw → ℕ) → GoInTurn names replicas turn
    → (group : Draw) (into : Route) → went_in group replicas ≡ Some into → ends_by (length names) replicas into.group + 1 ≤ ends_by (length names) replicas group
