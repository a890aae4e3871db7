-- What holds of a kept replica with its mails is kept while the replica offers, is elected, and looks for a leader.
use Rattle.sc_node_table.specs.NodeDefinitions.{elected, looked, pumped, Place}
use Rattle.sc_law_walks.proofs.PlaceWalks.{PlaceWalk, Before, After}
use Rattle.sc_law_walks.proofs.TableParts as tables
use Rattle.sc_law_walks.proofs.KeptPlaces.{kept_walk}

module _ (w : PlaceWalk) where
  pub on_late : (place : Place) → Before w.facts place → After w.facts place
  on_late place k = (k.0, w.states.late place k.1)

  pub pumps : (place : Place) → After w.facts place → After w.facts (pumped place)
  pumps place k = tables.pumps (kept_walk w) place k

  pub self_election : (place : Place) → Before w.facts place → After w.facts (elected place)
  self_election place k = tables.self_election (kept_walk w) place k

  pub looks : (place : Place) → Before w.facts place → After w.facts (looked place)
  looks place k = tables.looks (kept_walk w) place k
