-- At most one request of each client is queued at a replica.
use Rattle.std.specs.Prelude.{◌≡◌, ℕ, ◌≤◌, List, length, filter}
use Rattle.sc_base.specs.Definitions.{Each}
use Rattle.sc_node_table.specs.Values.{Command, OrderLine, Mail, Input, Row, Node}
use Rattle.sc_actor.specs.Definitions.{value}
use Rattle.sc_node_table.specs.NodeDefinitions.{NodeState, node_table, is_request_of, ReplicaState}
use Rattle.sc_scenario.specs.declared.scenario.scenarios.Scenario.{Scenario}
use Rattle.sc_meaning.specs.sound.SoundDefinitions.{Ahead, node_seat, player_table}

-- the number of these commands that are requests of a client
abbrev pub calls_of : ℕ → List Command → ℕ
calls_of client commands = length (filter (λ command. is_request_of client command) commands)

-- a replica has at most one request of each client in its queue
abbrev pub KeepsOneCall : ReplicaState → Type 0
KeepsOneCall r = (client : ℕ) → calls_of client r.backlog ≤ 1

-- each replica of a node has at most one request of each client in its queue
abbrev pub EachKeepsOneCall : NodeState → Type 0
EachKeepsOneCall node = Each KeepsOneCall node.replicas

-- a step of a node keeps at most one request of each client in each queue, whatever the input
abbrev pub StepsKeepOneCall : Type 0
StepsKeepOneCall =
    (node : NodeState) (input : Input Mail OrderLine)
    → EachKeepsOneCall node → EachKeepsOneCall (node_table node input).0

-- after any rows, lawful or not, each replica of each node of a scenario has at most one request of each client in its queue
abbrev pub QueuesKeepOneCall : Type 0
QueuesKeepOneCall =
    (ahead : Ahead) (scenario : Scenario) (me : ℕ)
    → (rows : List (Row Mail OrderLine)) (node : NodeState)
    → value player_table (node_seat ahead scenario.groups scenario.policy me) rows ≡ Node node
    → EachKeepsOneCall node
