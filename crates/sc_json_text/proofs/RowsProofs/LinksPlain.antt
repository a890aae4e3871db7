-- Links and routes are plain JSON.
use Rattle.std.proofs.Common.{◌≡◌, ℕ, suc, refl}
use Rattle.sc_words.specs.declared.commands.links.Link.{Link}
use Rattle.sc_words.specs.declared.commands.links.Route.{Route}
use Rattle.sc_json_text.specs.plain.Plain.{IsPlain}
use Rattle.sc_json_text.specs.rows.Definitions.{link_json, FitsLink, route_json, FitsRoute}
use Rattle.sc_json_text.proofs.RowsProofs.NamesPlain.{draw_plain}
use Rattle.sc_json_text.proofs.RowsProofs.SetsPlain.{nodes_plain}
use Rattle.sc_json_text.proofs.RowsProofs.ShapesPlain.{u32_plain}

pub link_plain : (room : ℕ) (link : Link) → FitsLink link → IsPlain (suc (suc room)) (link_json link)
unfolding link_json FitsLink
link_plain room link fits = (refl, (draw_plain (suc room) link.group fits.0), refl, (refl, (nodes_plain room link.members fits.1), tt, tt))

pub route_plain : (room : ℕ) (route : Route) → FitsRoute route → IsPlain (suc (suc room)) (route_json route)
unfolding route_json FitsRoute
route_plain room route fits = (refl, (draw_plain (suc room) route.group fits.0), refl, (refl, (u32_plain route.lo fits.1), refl, (refl, (nodes_plain room route.members fits.2), tt, tt)))
