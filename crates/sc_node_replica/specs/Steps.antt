-- A replica with one part of its record changed by an input.
use Rattle.std.specs.Prelude.{ℕ}
use Rattle.sc_words.specs.declared.commands.commands.Command.{Command}
use Rattle.sc_words.specs.paxos.Leaders.{LeaderState}
use Rattle.sc_node_table.specs.Slots.{with_slot}
use Rattle.sc_node_table.specs.Replica.{ReplicaState}

-- the replica with another leader's state
abbrev pub with_leader : LeaderState Command → ReplicaState → ReplicaState
with_leader leader r = record r { leader = leader }

-- the replica with a command that is ready at a slot
abbrev pub with_ready : ℕ → Command → ReplicaState → ReplicaState
with_ready slot command r = record r { ready = with_slot r.ready slot command }
