-- What holds of each node's seat at its birth, and of each client's, holds of each seat of a scenario.
use Rattle.std.proofs.Common.{◌≡◌, ℕ, List, [], ◌∷◌, map, find, eqb, Some, inl, refl}
use Rattle.sc_base.specs.Definitions.{Among, Each}
use Rattle.sc_words.proofs.PaxosProofs.PaxosLemmas.{Each-append, Each-among, find_found}
use Rattle.sc_node_table.specs.Values.{Base, Seat}
use Rattle.sc_node_table.specs.NodeDefinitions.{numbers_from}
use Rattle.sc_scenario.specs.declared.scenario.scenarios.Asks.{Asks as Requests}
use Rattle.sc_scenario.specs.declared.scenario.scenarios.Scenario.{Scenario}
use Rattle.sc_meaning.specs.sound.SoundDefinitions.{Player, as_nodes, births, client_seat, client_seats, node_seat, route_of}

module _ (P : Seat Player → Type 0) (scenario : Scenario) (node : (n : ℕ) → P (node_seat as_nodes scenario.groups scenario.policy n)) (client : (base : Base) → Among base scenario.groups → (requests : Requests) → P (client_seat (route_of base) requests)) where
  nodes_born : (numbers : List ℕ) → Each P (map (node_seat as_nodes scenario.groups scenario.policy) numbers)
  nodes_born [] = tt
  nodes_born (n ∷ numbers) = (node n, nodes_born numbers)

  clients_of : (base : Base) → Among base scenario.groups → (clients : List Requests) → Each P (map (client_seat (route_of base)) clients)
  clients_of base a [] = tt
  clients_of base a (requests ∷ clients) = (client base a requests, clients_of base a clients)

  clients_born : (some : List Base) → ((base : Base) → Among base some → Among base scenario.groups) → (clients : List Requests) → Each P (client_seats some clients)
  clients_born [] within clients = tt
  clients_born (base ∷ some) within clients = clients_of base (within base (inl refl)) clients

  pub seat_born : (seat : Seat Player) → find (λ (other : Seat Player). eqb other.who seat.who) (births as_nodes scenario) ≡ Some seat → P seat
  seat_born seat is_of =
      Each-among P (births as_nodes scenario) seat
      (Each-append P (map (node_seat as_nodes scenario.groups scenario.policy) (numbers_from 1 scenario.nodes)) (client_seats scenario.groups scenario.clients) (nodes_born (numbers_from 1 scenario.nodes)) (clients_born scenario.groups (λ base a. a) scenario.clients))
      (find_found (λ (other : Seat Player). eqb other.who seat.who) (births as_nodes scenario) seat is_of).0
