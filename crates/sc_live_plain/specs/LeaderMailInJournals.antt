-- What stands between the leader of a group and its nodes after some rows of a journal.
use Rattle.std.specs.Prelude.{◌≡◌, ℕ, ◌+◌, ◌==◌, List, [], map, filter, Option, Some, None, if◌then◌else◌}
use Rattle.std.specs.Option.{option_map}
use Rattle.sc_node_table.specs.Values.{Draw, Command, OrderLine, Mail, Row, Flight, Node, Client}
use Rattle.sc_actor.specs.Definitions.{value}
use Rattle.sc_words.specs.paxos.PaxosDefinitions.{flight_at, kept_voters}
use Rattle.sc_node_table.specs.NodeDefinitions.{replica_of, is_node, ReplicaState, next}
use Rattle.sc_scenario.specs.declared.scenario.scenarios.Scenario.{Scenario}
use Rattle.sc_meaning.specs.sound.SoundDefinitions.{Player, player_table, node_seat, system_of, as_nodes}
use Rattle.sc_live_orderly.specs.OrderlyDefinitions.{rest}
use Rattle.sc_live_plain.specs.Frames.{Frame}
use Rattle.sc_live_plain.specs.LeaderMail.{Mark, mark, View, IsBetween}
use Rattle.sc_live_plain.specs.PlainNodes.{AreTaken}

-- the nodes that voted for the command in flight at a slot, or None where nothing is in flight there
abbrev pub voters_in : List (Flight Command) → ℕ → Option (List ℕ)
voters_in flights slot = option_map (λ (flight : Flight Command). kept_voters flight.voters) (flight_at slot flights)

-- the marks, for a group, of the mail that is sent to an actor
abbrev pub marks_for : Draw → ℕ → List Mail → List Mark
marks_for name who mails = map (mark name) (filter (λ mail. mail.to == who) mails)

-- the replicas of a player; a client has none
abbrev pub replicas_of : Player → List ReplicaState
replicas_of (Node node) = node.replicas
replicas_of (Client client) = []

-- the replica of a group at a node after some rows
abbrev pub replica_at : Scenario → List (Row Mail OrderLine) → Draw → ℕ → Option ReplicaState
replica_at scenario rows name node =
    if is_node node
    then replica_of name (replicas_of (value player_table (node_seat as_nodes scenario.groups scenario.policy node) rows))
    else None

-- the next slot of a replica, or 0 where there is none
abbrev pub next_in : Option ReplicaState → ℕ
next_in None = 0
next_in (Some r) = next r

-- the nodes that voted for the command in flight at a slot of a replica, or None where there is no replica or no such command
abbrev pub votes_in : Option ReplicaState → ℕ → Option (List ℕ)
votes_in None slot = None
votes_in (Some r) slot = voters_in r.leader.flights slot

-- the view of a group after some rows, where `taken` slots have a command in flight or ready at the leader
abbrev pub view_at : Scenario → List (Row Mail OrderLine) → Frame → ℕ → View
view_at scenario rows frame taken = record {
  next = λ node. next_in (replica_at scenario rows frame.core.id node);
  bound = next_in (replica_at scenario rows frame.core.id frame.lead) + taken;
  voters = λ slot. votes_in (replica_at scenario rows frame.core.id frame.lead) slot;
}

-- the marks, for a group, of the mail that an actor has not taken after some rows
abbrev pub marks_at : (ℕ → ℕ → ℕ × ℕ) → Scenario → List (Row Mail OrderLine) → Draw → ℕ → List Mark
marks_at words scenario rows name who = map (mark name) (rest (system_of as_nodes words scenario) rows who)

-- after some rows the group's leading node has a replica, some number of slots has commands at it, and what stands between it and its nodes is as `IsBetween` says
pub record IsGroupAt (words : ℕ → ℕ → ℕ × ℕ) (scenario : Scenario) (rows : List (Row Mail OrderLine)) (frame : Frame) : Type 0 where
  pub taken : ℕ
  pub r : ReplicaState
  pub there : replica_at scenario rows frame.core.id frame.lead ≡ Some r
  pub slots : AreTaken r taken
  pub between : IsBetween frame (view_at scenario rows frame taken) (marks_at words scenario rows frame.core.id)
