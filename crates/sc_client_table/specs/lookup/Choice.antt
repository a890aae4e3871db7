-- What the choice of a group means.
use Rattle.std.specs.Prelude.{◌≡◌, ℕ, ◌<◌, ◌≤◌, ◌∷◌, ◌++◌, All, Some}
use Rattle.sc_base.specs.declared.names.Draw.{Draw}
use Rattle.sc_client_table.specs.declared.lookup.ways.Way.{Way}
use Rattle.sc_client_table.specs.lookup.Ways.{far}
use Rattle.sc_client_table.specs.lookup.Known.{KnownGroups, chosen}

-- a known group is nearest to a position: no group before it in the list is nearer, and each after it is farther
pub record IsNearest (p : ℕ) (known : KnownGroups) (group : Draw) : Type 0 where
  pub before : KnownGroups
  pub way : Way
  pub after : KnownGroups
  pub stands : known ≡ before ++ (group, way) ∷ after
  pub none_nearer : All (λ (entry : Draw × Way). far p way ≤ far p entry.1) before
  pub each_farther : All (λ (entry : Draw × Way). far p way < far p entry.1) after

-- the chosen group is the nearest one, and of several at one distance the last in the list
abbrev pub ChoosesNearest : Type 0
ChoosesNearest = (p : ℕ) (known : KnownGroups) (group : Draw) → chosen p known ≡ Some group → IsNearest p known group
