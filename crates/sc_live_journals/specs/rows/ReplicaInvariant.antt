-- What holds of each replica of a node in any journal.
use Rattle.std.specs.Prelude.{◌≡◌, ℕ, ◌<◌, Bool, false, List, [], length}
use Rattle.sc_base.specs.Definitions.{Each}
use Rattle.sc_node_table.specs.Values.{Base, Node, Seat}
use Rattle.sc_actor.specs.Definitions.{value}
use Rattle.sc_node_table.specs.NodeDefinitions.{NodeState, born_node, ReplicaState, next, slots_ahead}
use Rattle.sc_meaning.specs.sound.SoundDefinitions.{Player, player_table}
use Rattle.sc_live_steps.specs.calm.CalmDefinitions.{Rows}
use Rattle.sc_law_walks.specs.WalkDefinitions.{IsFiled, IsAsked}

-- The replica is its node's, has the members of as many slots as are open, and its acceptor has forgotten nothing from its next slot on.
-- Where it does not lead, nothing is in flight, ready or queued. One queue has commands of transactions alone, the other requests and orders.
abbrev pub IsWellKept : ℕ → ReplicaState → Type 0
IsWellKept me r = (r.me ≡ me) × (length r.sets ≡ slots_ahead) × (r.acceptor.floor < next r) × (r.running ≡ false → (r.leader.flights ≡ []) × (r.ready ≡ [])) × (r.running ≡ false → (r.acts ≡ []) × (r.backlog ≡ []))
    × Each IsFiled r.acts × Each IsAsked r.backlog

-- Each replica of the node is well kept.
abbrev pub IsWellKeptNode : NodeState → Type 0
IsWellKeptNode node = Each (IsWellKept node.me) node.replicas

-- A node whose replicas are well kept at first has well kept replicas after any rows, and keeps its number.
abbrev pub NodesStayWellKept : Type 0
NodesStayWellKept = (seat : Seat Player) (rows : Rows) (born node : NodeState) → seat.actor ≡ Node born → IsWellKeptNode born → value player_table seat rows ≡ Node node → IsWellKeptNode node × (node.me ≡ born.me)

-- Each node that is created with these groups has well kept replicas.
abbrev pub NodesAreBornWellKept : Type 0
NodesAreBornWellKept = (me : ℕ) (groups : List Base) (policy : Bool) → IsWellKeptNode (born_node slots_ahead me groups policy)
