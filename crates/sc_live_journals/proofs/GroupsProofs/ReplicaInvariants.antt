-- Each replica in any journal of a scenario keeps its greatest ballot and its slots.
use Rattle.std.proofs.Common.{◌≡◌, ℕ, eqb, List, [], ◌∷◌, map, find, Option, Some, None, refl, sym, subst}
use Rattle.std.proofs.lemmas.Bool.{eqb-true}
use Rattle.sc_base.specs.Definitions.{Each}
use Rattle.sc_node_table.specs.Values.{Draw, Base, Node, Client, Seat}
use Rattle.sc_actor.specs.Definitions.{value}
use Rattle.sc_words.proofs.PaxosProofs.PaxosLemmas.{Each-among, Each-append, find_found}
use Rattle.sc_scenario.specs.declared.scenario.scenarios.Asks.{Asks as Requests}
use Rattle.sc_scenario.specs.declared.scenario.scenarios.Scenario.{Scenario}
use Rattle.sc_node_table.specs.NodeDefinitions.{replica_of, ReplicaState, numbers_from}
use Rattle.sc_meaning.specs.sound.SoundDefinitions.{Player, player_table, births, as_nodes, node_seat, client_seat, client_seats, route_of}
use Rattle.sc_live_journals.specs.rows.RowDefinitions.{replicas_of, replica_in}
use Rattle.sc_live_journals.specs.groups.GroupDefinitions.{IsKeptPlayer, ScenariosAreKeptBorn, ReplicasAreKept, KeptLeadersRest, IsSlotKept, IsTopKept}
use Rattle.sc_live_journals.proofs.GroupsProofs.LeadersAtRest.{quiet_leaders_rest}
use Rattle.sc_live_journals.proofs.GroupsProofs.SlotNodes.{nodes_born as slots_born, Plays as SlotPlays, replay_well as slots_replay}
use Rattle.sc_law_walks.proofs.WalkLemmas.{FoundOne, found_one}
use Rattle.sc_live_journals.proofs.GroupsProofs.OwnGreatestBallots.{nodes_born as tops_born, Plays as TopPlays, Found as TopFound, found_well as top_found, replay_well as tops_replay}

-- ---- at birth

-- a seat whose player is born so
abbrev IsKeptSeat : Seat Player → Type 0
IsKeptSeat seat = IsKeptPlayer seat.who seat.actor

nodes_kept : (scenario : Scenario) (numbers : List ℕ) → Each IsKeptSeat (map (node_seat as_nodes scenario.groups scenario.policy) numbers)
nodes_kept scenario [] = tt
nodes_kept scenario (n ∷ numbers) = ((refl, tops_born n scenario.groups scenario.policy, slots_born n scenario.groups scenario.policy), nodes_kept scenario numbers)

clients_kept : (groups : List Base) (clients : List Requests) → Each IsKeptSeat (client_seats groups clients)
clients_kept [] clients = tt
clients_kept (base ∷ groups) clients = by clients
  where
    by : (cs : List Requests) → Each IsKeptSeat (map (client_seat (route_of base)) cs)
    by [] = tt
    by (c ∷ cs) = (tt, by cs)

all_kept : (scenario : Scenario) → Each IsKeptSeat (births as_nodes scenario)
all_kept scenario =
    Each-append IsKeptSeat (map (node_seat as_nodes scenario.groups scenario.policy) (numbers_from 1 scenario.nodes)) (client_seats scenario.groups scenario.clients) (nodes_kept scenario (numbers_from 1 scenario.nodes)) (clients_kept scenario.groups scenario.clients)

-- The players of a scenario are born so.
pub scenarios_kept_born : ScenariosAreKeptBorn
scenarios_kept_born scenario seat fact = Each-among IsKeptSeat (births as_nodes scenario) seat (all_kept scenario) (find_found (λ other. eqb other.who seat.who) (births as_nodes scenario) seat fact).0

-- ---- after rows

top_of : (who : ℕ) (name : Draw) (player : Player) (r : ReplicaState) → TopPlays who player → replica_of name (replicas_of player) ≡ Some r → IsTopKept who r
top_of who name (Node node) r k e = subst (TopFound who) e (top_found who name node.replicas k.1)
top_of who name (Client client) r k e = cc

slot_of : (who : ℕ) (name : Draw) (player : Player) (r : ReplicaState) → SlotPlays who player → replica_of name (replicas_of player) ≡ Some r → IsSlotKept r
slot_of who name (Node node) r k e = subst (FoundOne IsSlotKept) e (found_one IsSlotKept name node.replicas k.1)
slot_of who name (Client client) r k e = cc

pub top_plays : (who : ℕ) (player : Player) → IsKeptPlayer who player → TopPlays who player
top_plays who (Node node) k = (k.0, k.1)
top_plays who (Client client) k = tt

slot_plays : (who : ℕ) (player : Player) → IsKeptPlayer who player → SlotPlays who player
slot_plays who (Node node) k = (k.0, k.2)
slot_plays who (Client client) k = tt

-- Where players are, each replica after any rows keeps its greatest ballot and its slots.
pub replicas_kept : ReplicasAreKept
replicas_kept births rows name who r kept e = by (find (λ (seat : Seat Player). eqb seat.who who) births) refl e
  where
    by : (o : Option (Seat Player)) → find (λ (seat : Seat Player). eqb seat.who who) births ≡ o → replica_in name rows o ≡ Some r → IsTopKept who r × IsSlotKept r
    by None f e = cc
    by (Some seat) f e =
        let same = eqb-true seat.who who (find_found (λ (other : Seat Player). eqb other.who who) births seat f).1 in
        let born : IsKeptPlayer seat.who seat.actor = kept seat (subst (λ w. find (λ (other : Seat Player). eqb other.who w) births ≡ Some seat) (sym same) f) in (
          subst (λ w. IsTopKept w r) same (top_of seat.who name (value player_table seat rows) r (tops_replay seat.who seat.who rows seat.actor [] (top_plays seat.who seat.actor born)) e),
          slot_of seat.who name (value player_table seat rows) r (slots_replay seat.who seat.who rows seat.actor [] (slot_plays seat.who seat.actor born)) e,
        )

-- And in a quiet journal the one that leads a group that is well led and stands leads at rest, with nothing in flight or ready, where its slots are not used up.
pub kept_leaders_rest : KeptLeadersRest
kept_leaders_rest at over by words births rows base course lead kept rosters timely quiet strangers was stands there room =
    let k : IsTopKept course.ballot.node lead × IsSlotKept lead = replicas_kept births rows base.core.id course.ballot.node lead kept there in
    quiet_leaders_rest at over by words births rows base course lead rosters timely quiet strangers was stands there room (record { flights = k.1.0.0.0; ready = k.1.0.1.0; done = k.1.1 }) k.0
