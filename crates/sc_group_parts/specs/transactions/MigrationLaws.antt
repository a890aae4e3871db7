-- What handing over a member leaves unchanged, and what it changes.
use Rattle.std.specs.Prelude.{◌≡◌, ℕ, true, false}
use Rattle.sc_base.specs.Definitions.{is_member}
use Rattle.sc_group_table.specs.machine.MachineDefinitions.{Group, frozen_of, migrated_group, welcomed_group}

-- a group has afterwards the arc, the pairs and the client table that it had before
pub record KeepsAll (group after : Group) : Type 0 where
  pub arc : after.core.arc ≡ group.core.arc
  pub pairs : after.pairs ≡ group.pairs
  pub table : after.clients ≡ group.clients

-- a node is no member of the first group, and is a member of the second
pub record MovesOn (node : ℕ) (first second : Group) : Type 0 where
  pub left : is_member first.core.members node ≡ false
  pub came : is_member second.core.members node ≡ true

-- handing over a member between these groups: both keep their arcs, pairs and client tables, and the node moves from the first to the second
pub record Migrates (group next : Group) (node : ℕ) : Type 0 where
  pub first : KeepsAll group (migrated_group group node (frozen_of next))
  pub second : KeepsAll next (welcomed_group next node)
  pub moves : MovesOn node (migrated_group group node (frozen_of next)) (welcomed_group next node)

-- handing over a member has these effects in every case
abbrev pub MigrationsKeepAll : Type 0
MigrationsKeepAll = (group next : Group) (node : ℕ) → Migrates group next node
