-- What several laws say of a replica's step.
use Rattle.std.specs.Prelude.{◌≡◌, ◌&&◌, false, Option, Some, None}
use Rattle.sc_node_table.specs.Values.{Ballot, Command}
use Rattle.sc_words.specs.paxos.PaxosDefinitions.{below}
use Rattle.sc_node_table.specs.NodeDefinitions.{ReplicaState}

-- this ballot stops no leader: the replica does not run as a leader, or its ballot is not below this one
abbrev pub GoesOn : Ballot → ReplicaState → Type 0
GoesOn ballot r = (r.running && below r.leader.ballot ballot) ≡ false

-- the first statement, of the command, where there is a command; else the second statement
abbrev pub IfThere : (Command → Type 0) → Type 0 → Option Command → Type 0
IfThere there none None = none
IfThere there none (Some command) = there command
