-- What a walk says is kept while a replica is elected, and while it looks for a leader.
use Rattle.sc_node_table.specs.NodeDefinitions.{elected, looked, Place}
use Rattle.sc_law_walks.proofs.PlaceParts as places
use Rattle.sc_law_walks.proofs.WalkPlaces.{place_walk, to_place, from_place}
use Rattle.sc_law_walks.proofs.Walks.{Walk, Before, After}

module _ (w : Walk) where
  pub self_election : (place : Place) → Before w place → After w (elected place)
  self_election place k = from_place w (elected place) (places.self_election (place_walk w) place (to_place w place k))

  pub looks : (place : Place) → Before w place → After w (looked place)
  looks place k = from_place w (looked place) (places.looks (place_walk w) place (to_place w place k))
