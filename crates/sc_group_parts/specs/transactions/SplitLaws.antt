-- Laws of splits and merges.
use Rattle.std.specs.Prelude.{◌≡◌, ℕ, ◌<◌, ◌^◌, ◌++◌}
use Rattle.std.specs.FinMap.{empty, entries}
use Rattle.sc_base.specs.Definitions.{IsArc, CanJoin, end_of, joined, IsRoster}
use Rattle.sc_base.specs.declared.names.Draw.{Draw}
use Rattle.sc_words.specs.ideal.IdealDefinitions.{Contents, part_of, with_pairs}
use Rattle.sc_words.specs.declared.commands.cores.Core.{Core}
use Rattle.sc_words.specs.declared.commands.links.Route.{Route}
use Rattle.sc_group_table.specs.machine.MachineDefinitions.{gone_group, Group, group_of, frozen_of, merged_group, closing_group, CanSplit, left_core, right_core, left_group, child_of, AreNeighbours, HasItsPart, IsJoined}

-- the two parts of a split have arcs that meet and join to the group's arc; their members, in order, are the group's, and each part is a set of nodes
pub record KeepsTheWhole (core left right : Core) : Type 0 where
  pub left_arc : IsArc left.arc
  pub right_arc : IsArc right.arc
  pub meet : CanJoin left.arc right.arc
  pub arc : joined left.arc right.arc ≡ core.arc
  pub left_members : IsRoster left.members
  pub right_members : IsRoster right.members
  pub members : left.members ++ right.members ≡ core.members

-- a split at any position keeps the arc and the members in this way
abbrev pub SplitsKeepTheWhole : Type 0
SplitsKeepTheWhole = (core : Core) (at : ℕ) (child : Draw) → core.arc.lo < 2 ^ 32 → at < 2 ^ 32 → IsArc core.arc → IsRoster core.members → CanSplit core at
    → KeepsTheWhole core (left_core core at child) (right_core core at child)

-- the pairs of the two parts are together the group's, each part has its part of any whole map of which the group had its part, the child has its parent's client table, and the parent keeps it
pub record SharesThePairs (group left right : Group) : Type 0 where
  pub together : with_pairs left.pairs (entries right.pairs) ≡ part_of group.core.arc group.pairs
  pub pairs : (whole : Contents) → HasItsPart whole group → HasItsPart whole left × HasItsPart whole right
  pub table : right.clients ≡ group.clients
  pub own : left.clients ≡ group.clients

-- a split at any position shares the pairs in this way
abbrev pub SplitsShareThePairs : Type 0
SplitsShareThePairs = (group : Group) (at : ℕ) (child : Draw) → group.core.arc.lo < 2 ^ 32 → at < 2 ^ 32 → IsArc group.core.arc → CanSplit group.core at
    → SharesThePairs group (left_group group at child) (group_of (child_of group at child))

-- a merged group has both arcs as one, its part of any whole map of which the two had their parts, and both client tables joined
pub record Merges (group next after : Group) : Type 0 where
  pub is_arc : IsArc after.core.arc
  pub arc : after.core.arc ≡ joined group.core.arc next.core.arc
  pub pairs : (whole : Contents) → HasItsPart whole group → HasItsPart whole next → HasItsPart whole after
  pub table : IsJoined group.clients next.clients after.clients

-- a group has no pairs and an empty client table
pub record HasNothing (group : Group) : Type 0 where
  pub pairs : group.pairs ≡ empty
  pub table : group.clients ≡ empty

-- two groups are merged, and where they make the ring, the merged group has all of it
pub record ClosesTheRing (group next after : Group) : Type 0 where
  pub merges : Merges group next after
  pub ring : end_of next.core.arc ≡ group.core.arc.lo → after.core.arc.len ≡ 2 ^ 32

-- a merge keeps arcs, pairs and client tables in this way, where a third group follows the participant and where the two make the ring; the group that is gone has nothing
abbrev pub MergesKeepTheTotal : Type 0
MergesKeepTheTotal = (group next : Group) (into : Route) → AreNeighbours group next
    → Merges group next (merged_group group (frozen_of next)) × ClosesTheRing group next (closing_group group (frozen_of next)) × HasNothing (gone_group next into)
