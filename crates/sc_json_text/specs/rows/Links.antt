-- Links to neighbour groups, and routes to groups, as JSON.
use Rattle.std.specs.Prelude.{[], ◌∷◌, codes}
use Rattle.serde_json.specs.Data.{Data}
use Rattle.sc_words.specs.declared.commands.links.Link.{Link}
use Rattle.sc_words.specs.declared.commands.links.Route.{Route}
use Rattle.sc_json_text.specs.rows.Shapes.{number_json, fields}
use Rattle.sc_json_text.specs.rows.Held.{FitsU32, FitsMembers}
use Rattle.sc_json_text.specs.rows.Names.{draw_json, FitsDraw}
use Rattle.sc_json_text.specs.rows.Sets.{nodes_json}

-- The JSON of a link to a neighbour group: its name and its members.
unfoldable pub link_json : Link → Data
link_json link = fields
    ((codes "group", draw_json link.group)
    ∷ (codes "members", nodes_json link.members)
    ∷ [])

-- A link that the program's type can hold: each of its parts is valid.
unfoldable pub FitsLink : Link → Type 0
FitsLink link = FitsDraw link.group × FitsMembers link.members

-- The JSON of a route to a group: its name, where its arc starts, and its members.
unfoldable pub route_json : Route → Data
route_json route = fields
    ((codes "group", draw_json route.group)
    ∷ (codes "lo", number_json route.lo)
    ∷ (codes "members", nodes_json route.members)
    ∷ [])

-- A route that the program's type can hold: each of its parts is valid.
unfoldable pub FitsRoute : Route → Type 0
FitsRoute route = FitsDraw route.group × FitsU32 route.lo × FitsMembers route.members
