use Rattle.std.proofs.Common.{◌≡◌, ◌+◌, ◌-◌, ◌++◌, map}
use Rattle.sc_node_table.specs.Slots.{numbers_from}
use Rattle.sc_meaning.specs.sound.Players.{node_seat, as_nodes}
use Rattle.sc_world.proofs.seating.add_nodes.Given as goal

-- the nodes that are left make the whole
abbrev pub invariant-loop-done : goal.invariant-loop-done
invariant-loop-done l = l.seats.items ++ map (node_seat as_nodes l.groups l.policy) (numbers_from (1 + l.done) (l.nodes - l.done)) ≡ l.initial.seats.items ++ map (node_seat as_nodes l.groups l.policy) (numbers_from 1 l.nodes)
