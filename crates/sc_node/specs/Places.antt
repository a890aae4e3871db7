-- The place of a group's replica.
use Rattle.std.specs.Prelude.{◌≡◌, ℕ, ◌+◌, ◌<◌, List, [], ◌∷◌, length, get_or, set, if◌then◌else◌, Option, Some, None}
use Rattle.sc_base.specs.declared.names.Draw.{Draw}
use Rattle.sc_base.specs.Same.{same_draw}
use Rattle.sc_node_table.specs.Replica.{ReplicaState, name_of}
use Rattle.sc_node_table.specs.Node.{replica_of, with_replica}

-- the place of the first replica of a group, where the first of the list has the place `at`
abbrev pub place_from : ℕ → Draw → List ReplicaState → Option ℕ
place_from at group [] = None
place_from at group (r ∷ replicas) = if same_draw (name_of r) group then Some at else place_from (at + 1) group replicas

-- a group's replica is at a place of the list
pub record StandsAt (group : Draw) (rs : List ReplicaState) (n : ℕ) : Type 0 where
  pub within : n < length rs
  pub found : (d : ReplicaState) → replica_of group rs ≡ Some (get_or rs n d)
  pub written : (new : ReplicaState) → set rs n new ≡ with_replica group new rs

-- an answer that is the place of a group's replica, or None where there is no replica of the group
abbrev pub IsPlaceOf : Draw → List ReplicaState → Option ℕ → Type 0
IsPlaceOf group rs (Some n) = StandsAt group rs n
IsPlaceOf group rs None = replica_of group rs ≡ None
