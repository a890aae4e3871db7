-- How the groups of a ring have their ranges: their places, their keys and their pairs.
use Rattle.std.specs.Prelude.{◌≡◌, ℕ, IsTrue, List, Some, None}
use Rattle.std.specs.FinMap.{empty}
use Rattle.sc_base.specs.Definitions.{Among, end_of}
use Rattle.sc_words.specs.ideal.IdealDefinitions.{contents_after, holds_key, part_of}
use Rattle.sc_group_table.specs.machine.MachineDefinitions.{Group}
use Rattle.sc_meaning.specs.declared.entries.Cut.{Cut}
use Rattle.sc_meaning.specs.entries.Effective.{effective, serves}
use Rattle.sc_meaning.specs.entries.Worlds.{StoreWorld}

-- The effective record of a range's group is not gone, has the range's arc, and names the groups of the two neighbouring ranges: itself where there is one range.
pub record IsPlaced (world : StoreWorld) (cut : Cut) : Type 0 where
  -- the effective record of the range's group
  pub group : Group
  pub fact : effective world cut.group ≡ Some group
  -- the group is not gone
  pub here : group.core.gone ≡ None
  -- the group has the arc of the range
  pub arc : group.core.arc ≡ cut.arc
  -- the successor is the group of the range that begins where this one ends
  pub succ : (other : Cut) × Among other world.ring × (other.arc.lo ≡ end_of cut.arc) × (group.core.succ.group ≡ other.group)
  -- the predecessor is the group of the range that ends where this one begins
  pub pred : (other : Cut) × Among other world.ring × (cut.arc.lo ≡ end_of other.arc) × (group.core.pred.group ≡ other.group)

-- a group that serves a key is the group of a range that holds the key's position
abbrev pub ServesItsCut : StoreWorld → Type 0
ServesItsCut world = (group : Group) → Among group world.groups → (key : List ℕ) → IsTrue (serves group key)
    → (cut : Cut) × Among cut world.ring × (cut.group ≡ group.core.id) × IsTrue (holds_key cut.arc key)

-- the map after the history, restricted to a range's arc, is the pairs of the effective record of its group
abbrev pub HoldsItsPart : StoreWorld → Cut → Type 0
HoldsItsPart world cut = (group : Group) → effective world cut.group ≡ Some group → group.pairs ≡ part_of cut.arc (contents_after empty world.history)
