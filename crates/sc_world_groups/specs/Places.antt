-- Where a group stands among the groups.
use Rattle.std.specs.Prelude.{◌≡◌, ℕ, ◌<◌, List, length, slice_get}
use Rattle.sc_base.specs.declared.names.Draw.{Draw}
use Rattle.sc_group_table.specs.machine.Group.{Group}
use Rattle.sc_meaning.specs.entries.Worlds.{named_group}

-- The first group with a name stands at this place.
pub record IsFirstNamed (name : Draw) (groups : List Group) (at : ℕ) : Type 0 where
  -- the place is one of the groups'
  pub within : at < length groups
  -- the group there is the one that has the name
  pub found : named_group name groups ≡ slice_get groups at
