-- What a walk says is kept by each row of a replica's table.
use Rattle.std.proofs.Common.{◌≡◌, ℕ, List, length}
use Rattle.sc_base.specs.Definitions.{Drawer}
use Rattle.sc_node_table.specs.Values.{Draw, Base, OrderLine, MailBody}
use Rattle.sc_node_table.specs.NodeDefinitions.{named, ordered_row, Place, born_replica, mailed, made_by, slots_ahead}
use Rattle.sc_law_walks.proofs.PlaceRows as places
use Rattle.sc_law_walks.proofs.WalkPlaces.{place_walk, place_births, to_place, from_place}
use Rattle.sc_law_walks.proofs.Walks.{Walk, Births, LateAt, Before, After, AfterAll, Hears}

module _ (w : Walk) where
  pub takes_mail : (from : ℕ) (body : MailBody) (place : Place) → Hears w body → Before w place → AfterAll w (mailed from body place)
  takes_mail from body place h k = from_place w (mailed from body place).0 (places.takes_mail (place_walk w) from body place h (to_place w place k))

  pub orders : (drawer : Drawer) (line : OrderLine) (place : Place) → Before w place → After w (ordered_row drawer line place)
  orders drawer line place k = from_place w (ordered_row drawer line place) (places.orders (place_walk w) drawer line place (to_place w place k))

  pub creation : Births w.facts → (base : Base) → LateAt w (born_replica slots_ahead w.facts.me base)
  creation b base = (let born = places.creation (place_walk w) (place_births w b) base in (born.0, born.1.0))

  pub makes : Births w.facts → (from : ℕ) (group : Draw) (slot : ℕ) (base : Base) (sets : List (List ℕ)) → length sets ≡ slots_ahead → w.facts.State slot (named group base) → After w (made_by w.facts.me from group slot base sets)
  makes b from group slot base sets many good = from_place w (made_by w.facts.me from group slot base sets) (places.makes (place_walk w) (place_births w b) from group slot base sets many good)
