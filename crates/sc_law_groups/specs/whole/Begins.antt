-- What a journal begins with: its groups, to which nothing has happened, its players and what they ask.
use Rattle.std.specs.Prelude.{◌≡◌, ◌==◌, ℕ, ◌-◌, ◌≤◌, List, [], ◌∷◌, ◌++◌, map, find, Option, None, Some, slice_get, option_and_then}
use Rattle.sc_base.specs.Definitions.{Among, Each, most_nodes, IsRoster}
use Rattle.sc_node_table.specs.Values.{Op, Get, Base, Free, Route}
use Rattle.sc_node_table.specs.NodeDefinitions.{numbers_from, slots_ahead}
use Rattle.sc_meaning.specs.sound.SoundDefinitions.{Ahead, node_seat, client_seat, births, route_of, AreNamedApart}
use Rattle.sc_scenario.specs.declared.scenario.scenarios.Asks.{Asks}
use Rattle.sc_scenario.specs.declared.scenario.scenarios.Scenario.{Scenario}
use Rattle.sc_law_entries.specs.history.HistoryDefinitions.{BeginBare}
use Rattle.sc_law_entries.specs.ring.RingDefinitions.{Sources, BeginInPlace}

-- a group begins with no lock, vote or decision, and with a roster of members
pub record IsFresh (base : Base) : Type 0 where
  pub free : base.core.lock ≡ Free
  pub unvoted : base.core.voted ≡ []
  pub decided : base.core.decided ≡ []
  pub roster : IsRoster base.core.members

-- the players are the nodes from 1 on and the clients, which know this route; the nodes are at most the limit, each client has its own number from 1 on, and as many slots are open as a created child has
pub record HasSeats (ahead : Ahead) (scenario : Scenario) (route : Route) : Type 0 where
  pub seats : births ahead scenario ≡ map (node_seat ahead scenario.groups scenario.policy) (numbers_from 1 scenario.nodes) ++ map (client_seat route) scenario.clients
  pub nodes : scenario.nodes ≤ most_nodes
  pub numbered : Each (λ asks. 1 ≤ asks.client) scenario.clients
  pub once : (one other : Asks) → Among one scenario.clients → Among other scenario.clients → one.client ≡ other.client → one ≡ other
  pub open_slots : ahead.slots ≡ slots_ahead

-- the operation that was found; where none was found, a get of the empty key
abbrev pub op_or_get : Option Op → Op
op_or_get None = Get []
op_or_get (Some op) = op

-- the operation that a client's section has under a number
abbrev pub section_op : Scenario → ℕ → ℕ → Op
section_op scenario client seq = op_or_get (option_and_then (λ asks. slice_get asks.ops (seq - 1)) (find (λ asks. asks.client == client) scenario.clients))

-- what clients ask by each number is what their sections of the scenario say
abbrev pub AsksAre : Sources → Scenario → Type 0
AsksAre sources scenario = (asks : Asks) → Among asks scenario.clients → (seq : ℕ) (op : Op) → 1 ≤ seq → slice_get asks.ops (seq - 1) ≡ Some op → op ≡ sources.request asks.client seq

-- a scenario's groups are in place under names of their own, nothing has happened to them, and its players are seated
pub record BeginsWell (sources : Sources) (ahead : Ahead) (scenario : Scenario) (route : Route) : Type 0 where
  pub place : BeginInPlace sources scenario.groups
  pub apart : AreNamedApart scenario.groups
  pub fresh : (base : Base) → Among base scenario.groups → IsFresh base
  pub seats : HasSeats ahead scenario route
  pub asks : AsksAre sources scenario

-- a scenario begins well with at least one group, its groups hold nothing, and its clients know the first of them
pub record IsReady (sources : Sources) (ahead : Ahead) (scenario : Scenario) : Type 0 where
  pub first : Base
  pub others : List Base
  pub groups : scenario.groups ≡ first ∷ others
  pub well : BeginsWell sources ahead scenario (route_of first)
  pub bare : BeginBare scenario.groups
