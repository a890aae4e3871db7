-- What a replica owes when it is created (at most how many deliveries it may still cause).
use Rattle.std.specs.Prelude.{◌≡◌, ℕ, ◌+◌, ◌≤◌, ◌==◌, false, List, []}
use Rattle.sc_node_table.specs.Values.{Draw, Base, Install}
use Rattle.sc_node_table.specs.NodeDefinitions.{born_replica, made_by}
use Rattle.sc_live_steps.specs.calm.CalmPotential.{Ways, body_owes, idle_owes, place_owes}

-- A replica created at its group's birth, by the scenario or by a split, owes only what its group owes where its first leader is another node.
abbrev pub BornReplicasOwe : Type 0
BornReplicasOwe = (ways : Ways) (ahead me : ℕ) (base : Base) → place_owes ways (born_replica ahead me base, []) ≡ idle_owes (base.core.first == me) base.core.gone

-- A replica created from a state owes, together with one delivery, no more than the mail with the state and what its group owes where no replica of it leads.
abbrev pub MadeReplicasOwe : Type 0
MadeReplicasOwe =
    (ways : Ways) (me from : ℕ) (group : Draw) (slot : ℕ) (base : Base) (sets : List (List ℕ)) → place_owes ways (made_by me from group slot base sets) + 1 ≤ idle_owes false base.core.gone + body_owes ways me (Install group slot base sets)
