-- What holds of a kept replica with its mails is kept by each row of the replica's table.
use Rattle.std.proofs.Common.{◌≡◌, ℕ, false, List, [], length, refl}
use Rattle.sc_base.specs.Definitions.{Drawer}
use Rattle.sc_node_table.specs.Values.{Draw, Base, OrderLine, MailBody}
use Rattle.sc_node_table.specs.NodeDefinitions.{named, ordered_row, Place, born_replica, installed_replica, forgotten, looked_up, mailed, made_by, slots_ahead}
use Rattle.sc_law_walks.proofs.PlaceWalks.{PlaceWalk, PlaceBirths, Before, After, AfterAll, Hears}
use Rattle.sc_law_walks.proofs.TableRows as tables
pub use Rattle.sc_law_walks.proofs.TableRows.{order_asked}
use Rattle.sc_law_walks.proofs.KeptPlaces.{kept_walk}

module _ (w : PlaceWalk) where
  pub takes_mail : (from : ℕ) (body : MailBody) (place : Place) → Hears w.facts body → Before w.facts place → AfterAll w.facts (mailed from body place)
  takes_mail from body place h k = (tables.takes_mail (kept_walk w) from body place h tt k).0

  pub orders : (drawer : Drawer) (line : OrderLine) (place : Place) → Before w.facts place → After w.facts (ordered_row drawer line place)
  orders drawer line place k = tables.orders (kept_walk w) drawer line place tt (λ e. tt) k

  pub looks_up : (from : ℕ) (place : Place) → place.0.running ≡ false → Before w.facts place → After w.facts (looked_up from place)
  looks_up from place off k = tables.looks_up (kept_walk w) from place off k

  -- ---- births, and a replica that is made of a state

  pub creation : PlaceBirths w.facts → (base : Base) → After w.facts (born_replica slots_ahead w.facts.me base, [])
  creation b base = ((refl, refl, (λ off. (refl, refl, refl), tt, tt)), b.born base)

  makes_of : PlaceBirths w.facts → (slot : ℕ) (base : Base) (sets : List (List ℕ)) → length sets ≡ slots_ahead → w.facts.State slot base → Before w.facts (installed_replica w.facts.me slot base sets, [])
  unfolding forgotten
  makes_of b slot base sets many good = ((refl, many, (λ off. (refl, refl, refl), tt, tt)), b.made slot base sets many good)

  pub makes : PlaceBirths w.facts → (from : ℕ) (group : Draw) (slot : ℕ) (base : Base) (sets : List (List ℕ)) → length sets ≡ slots_ahead → w.facts.State slot (named group base) → After w.facts (made_by w.facts.me from group slot base sets)
  makes b from group slot base sets many good = tables.makes (kept_walk w) w.facts.me from group slot base sets (makes_of b slot (named group base) sets many good)
