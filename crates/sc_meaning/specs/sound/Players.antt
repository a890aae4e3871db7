-- The players of a scenario as the system that the walk runs: each node and each client is a value of its table.
use Rattle.std.specs.Prelude.{ℕ, ◌+◌, ◌≤◌, Bool, List, [], ◌∷◌, ◌++◌, length, map, All}
use Rattle.std.proofs.Common.{lit≤}
use Rattle.sc_node_table.specs.Values.{Reply, Base, Route, OrderLine, Mail, Row, Seat, Line, Role, Node, Client}
use Rattle.sc_base.specs.Definitions.{client_actor, most_clients, most_requests}
use Rattle.sc_actor.specs.declared.schedules.Line.TheVariants as line
use Rattle.sc_actor.specs.Definitions.{Table, values, System, system, IsLawful, IsWhole}
use Rattle.sc_scenario.specs.declared.scenario.scenarios.Asks.{Asks}
use Rattle.sc_scenario.specs.declared.scenario.scenarios.Scenario.{Scenario}
use Rattle.sc_scenario.specs.declared.scenario.scenarios.SchedLine.{SchedLine}
use Rattle.sc_scenario.specs.declared.scenario.scenarios.SchedLine.TheVariants.{Go, Deliver, Drop, Again, Tick, Crash, Told, Settle, Free, Storm}
use Rattle.sc_node_table.specs.NodeDefinitions.{slots_ahead, numbers_from, NodeState, node_table, born_node}
use Rattle.sc_client_table.specs.table.TableDefinitions.{Client as ClientState, born_client, table}
use Rattle.sc_mail.specs.Definitions.{role_table}

-- a node or a client, as a value of its table
abbrev pub Player : Type 0
Player = Role NodeState ClientState

-- the table of a player: that of nodes or that of clients
abbrev pub player_table : Table Player Mail OrderLine
player_table = role_table node_table table

-- the number of slots that are open at a time, at least one
pub record Ahead : Type 0 where
  pub slots : ℕ
  pub some : 1 ≤ slots

-- the number of open slots that the program's nodes have
abbrev pub as_nodes : Ahead
as_nodes = record { slots = slots_ahead; some = lit≤ tt }

-- the greatest number of an actor: that of the last client
abbrev pub most_actor : ℕ
most_actor = client_actor most_clients

-- a node at its birth, with this many open slots: it has a replica of each group of which it is a member, and a policy where the flag says so
abbrev pub node_seat : Ahead → List Base → Bool → ℕ → Seat Player
node_seat ahead groups policy me = record { who = me; actor = Node (born_node ahead.slots me groups policy) }

-- the route that a client is given to a group: its name, its first position and its members
abbrev pub route_of : Base → Route
route_of base = record { group = base.core.id; lo = base.core.arc.lo; members = base.core.members }

-- a client at its birth: it has its requests, and knows one route
abbrev pub client_seat : Route → Asks → Seat Player
client_seat first asks = record { who = client_actor asks.client; actor = Client (born_client asks.client asks.ops first) }

-- the clients at their births: each knows the scenario's first group
abbrev pub client_seats : List Base → List Asks → List (Seat Player)
client_seats [] clients = []
client_seats (base ∷ bases) clients = map (client_seat (route_of base)) clients

-- no client has more requests than the limit
abbrev pub AreFew : Scenario → Type 0
AreFew scenario = All (λ asks. length asks.ops ≤ most_requests) scenario.clients

-- the nodes and then the clients at their births, in the order of their numbers, with this many open slots
abbrev pub births : Ahead → Scenario → List (Seat Player)
births ahead scenario = map (node_seat ahead scenario.groups scenario.policy) (numbers_from 1 scenario.nodes) ++ client_seats scenario.groups scenario.clients

-- a line of a scenario as a line of the walk
abbrev pub line_of : SchedLine → Line OrderLine
line_of (Go client) = line.Go (client_actor client)
line_of (Deliver who k) = line.Deliver who k
line_of (Drop who k) = line.Drop who k
line_of (Again mail) = line.Again mail
line_of (Tick who) = line.Tick who
line_of (Crash node) = line.Crash node
line_of (Told node order) = line.Told node order
line_of (Settle most) = line.Settle most
line_of (Free most workers) = line.Free most workers
line_of (Storm number most) = line.Storm number most

-- the schedule of a scenario, as lines of the walk
abbrev pub schedule : Scenario → List (Line OrderLine)
schedule scenario = map line_of scenario.lines

-- the receiver of a mail
abbrev pub receiver_of : Mail → ℕ
receiver_of mail = mail.to

-- the system that the walk runs for a scenario, with this many open slots and these words for storms
abbrev pub system_of : Ahead → (ℕ → ℕ → ℕ × ℕ) → Scenario → System Player Mail OrderLine
system_of ahead words scenario = system player_table receiver_of words (births ahead scenario)

-- the journal is one that the scenario allows
abbrev pub Lawful : Ahead → (ℕ → ℕ → ℕ × ℕ) → Scenario → List (Row Mail OrderLine) → Type 0
Lawful ahead words scenario journal = IsLawful (system_of ahead words scenario) (schedule scenario) journal

-- the journal has passed the scenario's last line
abbrev pub Whole : Ahead → (ℕ → ℕ → ℕ × ℕ) → Scenario → List (Row Mail OrderLine) → Type 0
Whole ahead words scenario journal = IsWhole (system_of ahead words scenario) (schedule scenario) journal

-- the players after a journal, each as its own rows leave it
abbrev pub parties : Ahead → Scenario → List (Row Mail OrderLine) → List Player
parties ahead scenario journal = map (λ seat. seat.actor) (values player_table (births ahead scenario) journal)

-- the replies that a player took, in the order of its requests: a node takes none
abbrev pub replies_of : Player → List Reply
replies_of (Node node) = []
replies_of (Client client) = client.replies
