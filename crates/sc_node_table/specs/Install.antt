-- Install: the executed state is sent, and a replica that has executed less takes it over.
use Rattle.std.specs.Prelude.{ℕ, ◌-◌, List, [], ◌∷◌, if◌then◌else◌}
use Rattle.sc_base.specs.declared.names.Draw.{Draw}
use Rattle.sc_words.specs.declared.commands.cores.Base.{Base}
use Rattle.sc_mail.specs.declared.bodies.MailBody.TheVariants.{Prepare, Install}
use Rattle.sc_words.specs.paxos.PaxosDefinitions.{installed}
use Rattle.sc_group_table.specs.machine.MachineDefinitions.{group_of, base_of}
use Rattle.sc_node_table.specs.Replica.{ReplicaState, Place, name_of, next, forgotten, waits_in}
use Rattle.sc_node_table.specs.Mails.{sent}

-- the executed state, its last slot and the members of the open slots are sent to a node
unfoldable pub install_to : ℕ → Place → Place
install_to node (r, mails) = (r, sent r.me node (Install (name_of r) (next r - 1) (base_of r.group) r.sets) mails)

-- a new member is asked to promise the leader's ballot, unless that is the group's first, from the next slot on
abbrev pub asked_to_promise : ℕ → Place → Place
asked_to_promise node (r, mails) =
    if r.leader.is_first then (r, mails) else (r, sent r.me node (Prepare (name_of r) r.leader.ballot (next r)) mails)

-- each new member gets the executed state, and is then asked to promise
unfoldable pub welcomed_all : List ℕ → Place → Place
welcomed_all [] place = place
welcomed_all (node ∷ nodes) place = welcomed_all nodes (asked_to_promise node (install_to node place))

-- a state with this group's name: a replica keeps the name of its group, whatever name a state that is sent to it has
abbrev pub named : Draw → Base → Base
named group base = record base { core = record base.core { id = group } }

-- the replica after its state, its log and its open slots have become those after a slot
unfoldable pub jumped : ℕ → Base → List (List ℕ) → ReplicaState → ReplicaState
jumped slot base sets r =
    forgotten slot (record r { group = group_of (named (name_of r) base); log = installed slot; sets = sets; waits = waits_in base.core.lock r.waits })
