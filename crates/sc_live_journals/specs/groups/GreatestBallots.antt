-- What holds of the ballots of each replica of a node in any journal.
use Rattle.std.specs.Prelude.{◌≡◌, ℕ, Bool, true, List, Some}
use Rattle.sc_base.specs.Definitions.{Each}
use Rattle.sc_node_table.specs.Values.{Base, Node, Seat}
use Rattle.sc_actor.specs.Definitions.{value}
use Rattle.sc_words.specs.paxos.PaxosDefinitions.{IsAtLeast}
use Rattle.sc_node_table.specs.NodeDefinitions.{NodeState, born_node, ReplicaState, slots_ahead}
use Rattle.sc_meaning.specs.sound.SoundDefinitions.{Player, player_table}
use Rattle.sc_live_steps.specs.calm.CalmDefinitions.{Rows}
use Rattle.sc_law_walks.specs.WalkDefinitions.{IsKept}

-- The replica is its node's, and has promised no ballot later than the greatest that it saw.
-- Where it leads, it does so in that ballot and takes itself for the leader. And it is kept as any replica is (`IsKept`).
abbrev pub IsTopKept : ℕ → ReplicaState → Type 0
IsTopKept me r = (r.me ≡ me) × IsAtLeast r.top r.acceptor.promised × (r.running ≡ true → (r.top ≡ r.leader.ballot) × (r.hint ≡ Some me)) × IsKept me r

-- `IsTopKept` holds of each replica of the node.
abbrev pub IsTopKeptNode : NodeState → Type 0
IsTopKeptNode node = Each (IsTopKept node.me) node.replicas

-- A node of which `IsTopKeptNode` holds at its birth satisfies it after any rows, and keeps its number.
abbrev pub NodesKeepTops : Type 0
NodesKeepTops = (seat : Seat Player) (rows : Rows) (born node : NodeState) → seat.actor ≡ Node born → IsTopKeptNode born → value player_table seat rows ≡ Node node → IsTopKeptNode node × (node.me ≡ born.me)

-- `IsTopKeptNode` holds of each node that is created with these groups.
abbrev pub NodesAreBornTopped : Type 0
NodesAreBornTopped = (me : ℕ) (groups : List Base) (policy : Bool) → IsTopKeptNode (born_node slots_ahead me groups policy)
