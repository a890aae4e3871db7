-- Whose each name is: the group for which an order or a policy drew it, read off the rows of a journal.
use Rattle.std.specs.Prelude.{ℕ, nat_le, Bool, ◌&&◌, ◌||◌, not, List, [], ◌∷◌, ◌++◌, if◌then◌else◌, Option, Some, None, is_some, is_none}
use Rattle.sc_base.specs.Definitions.{Drawer, next_name, same_draw, is_member}
use Rattle.sc_node_table.specs.Values.{Draw, OrderLine, Mail, Row, Event, Deliver, Drop, Again, Go, Tick, Crash, Node, Client}
use Rattle.sc_actor.specs.declared.rows.Event.TheVariants.{Told}
use Rattle.sc_actor.specs.Definitions.{value}
use Rattle.sc_node_table.specs.NodeDefinitions.{replica_of, group_of_order, takes_name, untaken, wished_line, names_after_tick, waited_in, ReplicaState, members, settled, either}
use Rattle.sc_meaning.specs.sound.SoundDefinitions.{Ahead, Player, player_table, node_seat}
use Rattle.sc_scenario.specs.declared.scenario.scenarios.Scenario.{Scenario}

-- rows of a journal
abbrev pub Rows : Type 0
Rows = List (Row Mail OrderLine)

-- a name, and the group for which it was drawn
pub record Owned : Type 0 where
  pub name : Draw
  pub group : Draw

-- this name, drawn for this group
abbrev pub owned_by : Draw → Draw → Owned
owned_by name group = record { name = name; group = group }

-- what an order draws at the replica of its group: the next name of the node, if the order takes a name and the replica takes the order
abbrev pub drawn_for : Drawer → OrderLine → Option ReplicaState → List Owned
drawn_for drawer line None = []
drawn_for drawer line (Some r) = if takes_name line.order && is_none (untaken drawer line r) then owned_by (next_name drawer) (group_of_order line.order) ∷ [] else []

-- a replica that has waited one tick longer
abbrev pub waited : ReplicaState → ReplicaState
waited r = waited_in r.group.core.lock r

-- what a policy, if it is on, orders at a tick of a replica: only a settled member of a group that is not gone orders anything
abbrev pub wished_at : Bool → ReplicaState → Option OrderLine
wished_at on r =
    if is_some r.group.core.gone || not (is_member (members r) r.me) then None
    else if not (settled r) then None
    else wished_line on (waited r)

-- what is drawn for what a policy orders at a replica, if it orders anything
abbrev pub drawn_wishing : Drawer → Option OrderLine → ReplicaState → List Owned
drawn_wishing drawer None r = []
drawn_wishing drawer (Some line) r = drawn_for drawer line (Some r)

-- what replicas draw at a tick, in their order, each from the next name that those before it left
abbrev pub drawn_ticking : Bool → Drawer → List ReplicaState → List Owned
drawn_ticking on drawer [] = []
drawn_ticking on drawer (r ∷ replicas) = drawn_wishing drawer (wished_at on r) (waited r) ++ drawn_ticking on (names_after_tick on drawer r) replicas

-- what a player draws at an event: only a node that gets an order or ticks draws
abbrev pub names_drawn : Player → Event OrderLine → List Owned
names_drawn (Node node) (Told line) = drawn_for node.draws line (replica_of (group_of_order line.order) node.replicas)
names_drawn (Node node) Tick = drawn_ticking node.policy node.draws node.replicas
names_drawn (Node node) (Deliver mail) = []
names_drawn (Node node) Go = []
names_drawn (Node node) Crash = []
names_drawn (Node node) (Drop mail) = []
names_drawn (Node node) (Again mail) = []
names_drawn (Client client) event = []

-- whether this is the number of a node of the scenario
abbrev pub is_node_of : Scenario → ℕ → Bool
is_node_of scenario who = nat_le 1 who && nat_le who scenario.nodes

-- what a row draws that follows these rows
abbrev pub drawn_at : Ahead → Scenario → Rows → Row Mail OrderLine → List Owned
drawn_at ahead scenario before row =
    if is_node_of scenario row.who then names_drawn (value player_table (node_seat ahead scenario.groups scenario.policy row.who) before) row.event else []

-- the group for which a name was drawn, if the name is one of these
abbrev pub owner_by : List Owned → Draw → Option Draw
owner_by [] name = None
owner_by (owned ∷ more) name = if same_draw owned.name name then Some owned.group else owner_by more name

-- the group for which the later rows, after the earlier ones, drew a name, if they did
abbrev pub owner_from : Ahead → Scenario → Rows → Rows → Draw → Option Draw
owner_from ahead scenario before [] name = None
owner_from ahead scenario before (row ∷ rows) name = either (owner_by (drawn_at ahead scenario before row) name) (owner_from ahead scenario (before ++ row ∷ []) rows name)

-- the owner of a name: the group for which a journal drew it, if it did
abbrev pub owner_in : Ahead → Scenario → Rows → Draw → Option Draw
owner_in ahead scenario rows name = owner_from ahead scenario [] rows name
