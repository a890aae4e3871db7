-- What a walk says is kept by a replica's tick.
use Rattle.std.proofs.Common.{Bool}
use Rattle.sc_base.specs.Definitions.{Drawer}
use Rattle.sc_node_table.specs.NodeDefinitions.{Place, tick_row}
use Rattle.sc_law_walks.proofs.PlaceTicks as places
use Rattle.sc_law_walks.proofs.WalkPlaces.{place_walk, place_ticks, to_place, from_place}
use Rattle.sc_law_walks.proofs.Walks.{Walk, Ticks, Before, After}

module _ (w : Walk) (t : Ticks w.facts) where
  pub ticks : (on : Bool) (drawer : Drawer) (place : Place) → Before w place → After w (tick_row on drawer place)
  ticks on drawer place k = from_place w (tick_row on drawer place) (places.ticks (place_walk w) (place_ticks w t) on drawer place (to_place w place k))
