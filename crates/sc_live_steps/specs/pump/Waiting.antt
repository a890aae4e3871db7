-- No command of a transaction is queued after the pump where nothing is in flight.
use Rattle.std.specs.Prelude.{◌≡◌, ◌≤◌, nat_le, true, [], length}
use Rattle.sc_node_table.specs.NodeDefinitions.{pumped, ReplicaState, Place, next, settled, last_slot}

-- a settled replica whose next slot is at most the last one, with nothing in flight or ready, has no command of a transaction in its queue `acts`
abbrev pub HasNoneWaiting : ReplicaState → Type 0
HasNoneWaiting r = settled r ≡ true → nat_le (next r) last_slot ≡ true → r.leader.flights ≡ [] → r.ready ≡ [] → r.acts ≡ []

-- after the pump each replica with at least one open slot is as `HasNoneWaiting` says
abbrev pub PumpsLeaveNone : Type 0
PumpsLeaveNone = (place : Place) → 1 ≤ length place.0.sets → HasNoneWaiting (pumped place).0
