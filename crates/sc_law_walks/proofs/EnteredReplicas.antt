-- What an executed entry leaves of a replica: its number and its name, whether it leads, and what is ready.
use Rattle.std.proofs.Common.{◌≡◌, refl}
use Rattle.sc_node_table.specs.Values.{Command}
use Rattle.sc_group_table.specs.machine.MachineDefinitions.{applied}
use Rattle.sc_node_table.specs.NodeDefinitions.{entered, ReplicaState, name_of, forgotten}
use Rattle.sc_law_walks.proofs.CoreWalks.{name_step}

-- an entry leaves the number
pub entered_me : (command : Command) (r : ReplicaState) → (entered command r).me ≡ r.me
unfolding entered forgotten
entered_me command r = refl

-- it applies its command to the group
pub entered_group : (command : Command) (r : ReplicaState) → (entered command r).group ≡ (applied r.group command).0
unfolding entered forgotten
entered_group command r = refl

-- it leaves the group its name
pub entered_name : (command : Command) (r : ReplicaState) → name_of (entered command r) ≡ name_of r
unfolding entered forgotten
entered_name command r = name_step r.group (λ id first. id ≡ name_of r) refl command

-- it stops nobody
pub entered_running : (command : Command) (r : ReplicaState) → (entered command r).running ≡ r.running
unfolding entered forgotten
entered_running command r = refl

-- it leaves what is ready
pub entered_ready : (command : Command) (r : ReplicaState) → (entered command r).ready ≡ r.ready
unfolding entered forgotten
entered_ready command r = refl
