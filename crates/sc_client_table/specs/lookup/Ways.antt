-- What a client knows of one group.
use Rattle.std.specs.Prelude.{ℕ, ◌+◌, ◌-◌, ◌%◌, ◌^◌, List, None, unwrap_or}
use Rattle.sc_base.specs.Definitions.{least_of, next_after}
use Rattle.sc_client_table.specs.declared.lookup.ways.Way.{Way}

-- what is known of a new group: its start and its members, and no preferred node
abbrev pub new_way : ℕ → List ℕ → Way
new_way lo members = record { lo = lo; members = members; preferred = None }

-- the node that is asked: the preferred one, or else the least member
abbrev pub target_of : Way → ℕ
target_of way = unwrap_or way.preferred (least_of way.members)

-- the member after the node that is asked
abbrev pub next_target : Way → ℕ
next_target way = next_after way.members (target_of way)

-- how far a position lies after the start of the group's arc, round the ring
abbrev pub far : ℕ → Way → ℕ
far p way = ((p + 2 ^ 32) - way.lo) % 2 ^ 32
