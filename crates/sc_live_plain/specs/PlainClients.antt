-- What it is for a client to wait or to rest, and which requests are begun.
use Rattle.std.specs.Prelude.{◌≡◌, ℕ, ◌+◌, ◌-◌, ◌≤◌, Bool, true, false, List, [], ◌∷◌, length, slice_get, Some, None, ◌⊎◌}
use Rattle.sc_base.specs.Definitions.{Among, key_of, pos_of}
use Rattle.sc_node_table.specs.Values.{Draw, Op, Base, OrderLine, Mail, Row, Node, Client}
use Rattle.sc_actor.specs.Definitions.{value}
use Rattle.sc_client_table.specs.lookup.LookupDefinitions.{chosen, target_in}
use Rattle.sc_client_table.specs.table.TableDefinitions.{Client as ClientState}
use Rattle.sc_scenario.specs.declared.scenario.scenarios.Asks.{Asks}
use Rattle.sc_scenario.specs.declared.scenario.scenarios.Scenario.{Scenario}
use Rattle.sc_meaning.specs.sound.SoundDefinitions.{Player, player_table, client_seat, route_of}
use Rattle.sc_live_plain.specs.PlainPotential.{begun_ones}

-- a client waits for an answer to the request after those that are answered; it asked the group that it chooses for the request's key, at the node that it takes for its leader
pub record IsWaiting (client : ClientState) : Type 0 where
  pub seq : ℕ
  pub op : Op
  pub waits : client.waiting ≡ Some seq
  pub number : seq ≡ length client.replies + 1
  pub op_is : slice_get client.requests (seq - 1) ≡ Some op
  pub group : Draw
  pub target : ℕ
  pub asked : client.asked ≡ Some (group, target)
  pub chosen_is : chosen (pos_of (key_of op)) client.known ≡ Some group
  pub target_is : target_in group client.known ≡ Some target

-- no request of the client waits: it has not started, or it has all replies
pub record IsResting (gone : Bool) (client : ClientState) : Type 0 where
  pub waits : client.waiting ≡ None
  pub replies : ((gone ≡ false) × (client.replies ≡ [])) ⊎ ((gone ≡ true) × (length client.replies ≡ length client.requests))

-- how many requests a player has begun: a node none, a client as `begun_ones` says
abbrev pub begun_of : Player → ℕ
begun_of (Node node) = 0
begun_of (Client client) = begun_ones client

-- after these rows a client of the scenario has begun the request with number `seq` and operation `op`: it waits for an answer to it, or has its reply
pub record IsBegun (scenario : Scenario) (rows : List (Row Mail OrderLine)) (client seq : ℕ) (op : Op) : Type 0 where
  pub first : Base
  pub others : List Base
  pub groups_are : scenario.groups ≡ first ∷ others
  pub asks : Asks
  pub is_asks : Among asks scenario.clients
  pub client_is : asks.client ≡ client
  pub from_one : 1 ≤ seq
  pub op_is : slice_get asks.ops (seq - 1) ≡ Some op
  pub low : seq ≤ begun_of (value player_table (client_seat (route_of first) asks) rows)
