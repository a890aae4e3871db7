-- The players of a scenario are born well.
use Rattle.std.proofs.Common.{ℕ, eqb, List, [], ◌∷◌, map, refl}
use Rattle.sc_base.specs.Definitions.{Each}
use Rattle.sc_node_table.specs.Values.{Base, Seat}
use Rattle.sc_words.proofs.PaxosProofs.PaxosLemmas.{Each-among, Each-append, find_found}
use Rattle.sc_scenario.specs.declared.scenario.scenarios.Asks.{Asks as Requests}
use Rattle.sc_scenario.specs.declared.scenario.scenarios.Scenario.{Scenario}
use Rattle.sc_node_table.specs.NodeDefinitions.{numbers_from}
use Rattle.sc_meaning.specs.sound.SoundDefinitions.{Player, births, as_nodes, node_seat, client_seat, client_seats, route_of}
use Rattle.sc_live_journals.proofs.RowsProofs.RowLemmas.{births_alone, nodes_born}
use Rattle.sc_live_journals.specs.groups.GroupDefinitions.{IsWellPlayer, ScenariosAreWellBorn}

-- a seat whose player is born well
abbrev IsWellSeat : Seat Player → Type 0
IsWellSeat seat = IsWellPlayer seat.who seat.actor

nodes_well : (scenario : Scenario) (numbers : List ℕ) → Each IsWellSeat (map (node_seat as_nodes scenario.groups scenario.policy) numbers)
nodes_well scenario [] = tt
nodes_well scenario (n ∷ numbers) = ((refl, nodes_born n scenario.groups scenario.policy), nodes_well scenario numbers)

clients_well : (groups : List Base) (clients : List Requests) → Each IsWellSeat (client_seats groups clients)
clients_well [] clients = tt
clients_well (base ∷ groups) clients = by clients
  where
    by : (cs : List Requests) → Each IsWellSeat (map (client_seat (route_of base)) cs)
    by [] = tt
    by (c ∷ cs) = (tt, by cs)

all_well : (scenario : Scenario) → Each IsWellSeat (births as_nodes scenario)
all_well scenario =
    Each-append IsWellSeat (map (node_seat as_nodes scenario.groups scenario.policy) (numbers_from 1 scenario.nodes)) (client_seats scenario.groups scenario.clients) (nodes_well scenario (numbers_from 1 scenario.nodes)) (clients_well scenario.groups scenario.clients)

-- The players of a scenario are born with their numbers and with replicas that are well kept, and each that runs does so with a ballot of its own.
pub scenarios_well_born : ScenariosAreWellBorn
scenarios_well_born scenario = record {
  well = λ seat fact. Each-among IsWellSeat (births as_nodes scenario) seat (all_well scenario) (find_found (λ other. eqb other.who seat.who) (births as_nodes scenario) seat fact).0;
  alone = births_alone scenario;
}
