-- At which slots each replica of a node has anything in flight or ready, in any journal.
use Rattle.std.specs.Prelude.{◌≡◌, ℕ, ◌<◌, ◌≤◌, Bool, false, List, [], ◌∷◌, None}
use Rattle.sc_base.specs.Definitions.{Each}
use Rattle.sc_node_table.specs.Values.{Command, Base, Node, Seat, Flight}
use Rattle.sc_actor.specs.Definitions.{value}
use Rattle.sc_node_table.specs.NodeDefinitions.{next_ready, NodeState, born_node, ReplicaState, next, slots_ahead}
use Rattle.sc_meaning.specs.sound.SoundDefinitions.{Player, player_table}
use Rattle.sc_live_steps.specs.calm.CalmDefinitions.{Rows}
use Rattle.sc_live_steps.specs.following.FollowingDefinitions.{AreApart}

-- All flights are at slots from `from` on, at most one at a slot.
abbrev pub FlyFrom : ℕ → List (Flight Command) → Type 0
FlyFrom from flights = Each (λ flight. from ≤ flight.slot) flights × AreApart flights

-- The entries stand by rising slot.
abbrev pub AreRising : List (ℕ × Command) → Type 0
AreRising [] = Unit {0}
AreRising (entry ∷ entries) = Each (λ later. entry.0 < later.0) entries × AreRising entries

-- The entries stand by rising slot, from slot `from` on.
abbrev pub WaitFrom : ℕ → List (ℕ × Command) → Type 0
WaitFrom from entries = Each (λ entry. from ≤ entry.0) entries × AreRising entries

-- What the replica has in flight and ready is at slots from `from` on, and if it does not lead it has nothing.
abbrev pub HasFrom : ℕ → ReplicaState → Type 0
HasFrom from r = FlyFrom from r.leader.flights × WaitFrom from r.ready × (r.running ≡ false → (r.leader.flights ≡ []) × (r.ready ≡ []))

-- What the replica has in flight and ready is at slots that it has not executed, and nothing is ready at its next slot.
abbrev pub IsSlotKept : ReplicaState → Type 0
IsSlotKept r = HasFrom (next r) r × (next_ready r ≡ None)

-- `IsSlotKept` holds of each replica of the node.
abbrev pub IsSlotKeptNode : NodeState → Type 0
IsSlotKeptNode node = Each IsSlotKept node.replicas

-- A node of which `IsSlotKeptNode` holds at its birth satisfies it after any rows.
abbrev pub NodesKeepSlots : Type 0
NodesKeepSlots = (seat : Seat Player) (rows : Rows) (born node : NodeState) → seat.actor ≡ Node born → IsSlotKeptNode born → value player_table seat rows ≡ Node node → IsSlotKeptNode node

-- `IsSlotKeptNode` holds of each node that is created with these groups.
abbrev pub NodesAreBornSlotted : Type 0
NodesAreBornSlotted = (me : ℕ) (groups : List Base) (policy : Bool) → IsSlotKeptNode (born_node slots_ahead me groups policy)
