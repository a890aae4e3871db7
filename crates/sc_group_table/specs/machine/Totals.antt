-- What a split or a transaction leaves unchanged of the arcs, pairs and client tables of its two groups together.
use Rattle.std.specs.Prelude.{◌≡◌, ℕ, ◌<◌, ◌^◌}
use Rattle.std.specs.FinMap.{get}
use Rattle.sc_base.specs.Definitions.{IsArc, CanJoin, joined}
use Rattle.sc_words.specs.ideal.IdealDefinitions.{Contents, part_of, ClientTable, later}
use Rattle.sc_group_table.specs.machine.Group.{Group}

-- the group has exactly the pairs of a whole map that lie on its arc
abbrev pub HasItsPart : Contents → Group → Type 0
HasItsPart whole group = group.pairs ≡ part_of group.core.arc whole

-- two groups are neighbours: the arc of the second begins where that of the first ends
pub record AreNeighbours (group next : Group) : Type 0 where
  pub lo_fits : group.core.arc.lo < 2 ^ 32
  pub first : IsArc group.core.arc
  pub second : IsArc next.core.arc
  pub meet : CanJoin group.core.arc next.core.arc

-- a table is the joining of two: for each client it has the entry with the greater number
abbrev pub IsJoined : ClientTable → ClientTable → ClientTable → Type 0
IsJoined own other table = (client : ℕ) → get table client ≡ later (get own client) (get other client)

-- two neighbours stay neighbours, their arcs join to the same arc, and each has its part of any whole map of which both had their parts
pub record KeepTheTotal (group next group_after next_after : Group) : Type 0 where
  pub neighbours : AreNeighbours group_after next_after
  pub arcs : joined group_after.core.arc next_after.core.arc ≡ joined group.core.arc next.core.arc
  pub pairs : (whole : Contents) → HasItsPart whole group → HasItsPart whole next → HasItsPart whole group_after × HasItsPart whole next_after
