-- A replica that does not run, as it is made, and a replica with another value of a single field.
use Rattle.std.specs.Prelude.{ℕ, false, List, [], Some}
use Rattle.sc_words.specs.declared.commands.commands.Command.{Command}
use Rattle.sc_words.specs.paxos.Logs.{LogState}
use Rattle.sc_words.specs.paxos.Acceptors.{born_acceptor}
use Rattle.sc_words.specs.paxos.Leaders.{first_leader}
use Rattle.sc_group_table.specs.machine.Group.{Group}
use Rattle.sc_node_table.specs.Replica.{ReplicaState, first_ballot}

-- the replica of a node with this state, log and members of the open slots, which has promised the group's first ballot
abbrev pub bare_replica : ℕ → Group → LogState Command → List (List ℕ) → ReplicaState
bare_replica me group log sets = record {
  me = me;
  group = group;
  log = log;
  acceptor = born_acceptor (first_ballot group.core);
  hint = Some group.core.first;
  top = first_ballot group.core;
  running = false;
  leader = first_leader (first_ballot group.core);
  ready = [];
  sets = sets;
  acts = [];
  backlog = [];
  waits = 0;
}

-- the replica with this node taken for the leader
abbrev pub with_hint : ℕ → ReplicaState → ReplicaState
with_hint node r = record r { hint = Some node }

-- the replica with a transaction that has waited for this number of ticks
abbrev pub with_waits : ℕ → ReplicaState → ReplicaState
with_waits waits r = record r { waits = waits }
