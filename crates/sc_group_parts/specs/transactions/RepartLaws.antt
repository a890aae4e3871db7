-- What a moved boundary leaves unchanged.
use Rattle.std.specs.Prelude.{◌≡◌, ℕ, ◌<◌, ◌^◌, false}
use Rattle.sc_base.specs.Definitions.{CanCut, holds}
use Rattle.sc_words.specs.declared.commands.bodies.Offer.{Offer}
use Rattle.sc_group_table.specs.machine.MachineDefinitions.{Group, frozen_of, giving_group, taking_group, part_gift, gained_group, lost_group, AreNeighbours, IsJoined, KeepTheTotal}

-- where the group gives, the arcs and pairs of both together are unchanged, its successor joins the group's client table to its own, and the group keeps its own
pub record GivesArc (group next : Group) (offer : Offer) (at : ℕ) : Type 0 where
  pub total : KeepTheTotal group next (giving_group group at (frozen_of next)) (gained_group next offer at (part_gift group at))
  pub table : IsJoined next.clients group.clients (gained_group next offer at (part_gift group at)).clients
  pub own : (giving_group group at (frozen_of next)).clients ≡ group.clients

-- the group gives in this way at every position inside its arc, if that arc was offered as it is
abbrev pub GivingKeepsTheTotal : Type 0
GivingKeepsTheTotal = (group next : Group) (offer : Offer) (at : ℕ) → AreNeighbours group next → at < 2 ^ 32 → offer.arc ≡ group.core.arc
    → CanCut group.core.arc at → GivesArc group next offer at

-- where the group takes, the arcs and pairs of both together are unchanged, it joins its successor's client table to its own, and the successor keeps its own
pub record TakesArc (group next : Group) (at : ℕ) : Type 0 where
  pub total : KeepTheTotal group next (taking_group group at (frozen_of next)) (lost_group next at)
  pub table : IsJoined group.clients next.clients (taking_group group at (frozen_of next)).clients
  pub own : (lost_group next at).clients ≡ next.clients

-- the group takes in this way at every position inside the successor's arc
abbrev pub TakingKeepsTheTotal : Type 0
TakingKeepsTheTotal = (group next : Group) (at : ℕ) → AreNeighbours group next → at < 2 ^ 32 → holds group.core.arc at ≡ false
    → CanCut next.core.arc at → TakesArc group next at
