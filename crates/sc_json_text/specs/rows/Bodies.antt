-- What transactions do, and what they ask of other groups, as JSON.
use Rattle.std.specs.Prelude.{[], ◌∷◌, codes, ⊤}
use Rattle.serde_json.specs.Data.{Data, string}
use Rattle.sc_words.specs.declared.commands.bodies.Body.{Body}
use Rattle.sc_words.specs.declared.commands.bodies.Body.TheVariants as TheBody
use Rattle.sc_words.specs.declared.commands.bodies.Offer.{Offer}
use Rattle.sc_words.specs.declared.commands.bodies.Watch.{Watch}
use Rattle.sc_json_text.specs.rows.Shapes.{number_json, fields, variant}
use Rattle.sc_json_text.specs.rows.Held.{FitsU16, FitsU32, FitsArc, FitsMembers}
use Rattle.sc_json_text.specs.rows.Links.{link_json, FitsLink}
use Rattle.sc_json_text.specs.rows.Names.{draw_json, FitsDraw}
use Rattle.sc_json_text.specs.rows.Sets.{arc_json, nodes_json}

-- The JSON of what a transaction does: a merge, a moved boundary, a handed-over member or a split.
unfoldable pub body_json : Body → Data
body_json TheBody.Merge = string (codes "Merge")
body_json (TheBody.Repart at) = variant (codes "Repart") (fields ((codes "at", number_json at) ∷ []))
body_json (TheBody.Migrate node) = variant (codes "Migrate") (fields ((codes "node", number_json node) ∷ []))
body_json (TheBody.Split at child) = variant (codes "Split") (fields ((codes "at", number_json at) ∷ (codes "child", draw_json child) ∷ []))

-- What a transaction does, as the program's type can hold it: each of its parts is valid.
unfoldable pub FitsBody : Body → Type 0
FitsBody TheBody.Merge = ⊤
FitsBody (TheBody.Repart at) = FitsU32 at
FitsBody (TheBody.Migrate node) = FitsU16 node
FitsBody (TheBody.Split at child) = FitsU32 at × FitsDraw child

-- The JSON of an offer, which is what a coordinator asks of its participant.
unfoldable pub offer_json : Offer → Data
offer_json offer = fields
    ((codes "arc", arc_json offer.arc)
    ∷ (codes "body", body_json offer.body)
    ∷ (codes "by", number_json offer.by)
    ∷ (codes "coord", draw_json offer.coord)
    ∷ (codes "members", nodes_json offer.members)
    ∷ (codes "part", draw_json offer.part)
    ∷ [])

-- An offer that the program's type can hold: each of its parts is valid.
unfoldable pub FitsOffer : Offer → Type 0
FitsOffer offer = FitsArc offer.arc × FitsBody offer.body × FitsU16 offer.by × FitsDraw offer.coord × FitsMembers offer.members × FitsDraw offer.part

-- The JSON of what a coordinator asks of its watcher.
unfoldable pub watch_json : Watch → Data
watch_json watch = fields
    ((codes "by", number_json watch.by)
    ∷ (codes "coord", draw_json watch.coord)
    ∷ (codes "members", nodes_json watch.members)
    ∷ (codes "next", link_json watch.next)
    ∷ (codes "old", draw_json watch.old)
    ∷ (codes "part", draw_json watch.part)
    ∷ [])

-- What a watcher is asked, as the program's type can hold it: each of its parts is valid.
unfoldable pub FitsWatch : Watch → Type 0
FitsWatch watch = FitsU16 watch.by × FitsDraw watch.coord × FitsMembers watch.members × FitsLink watch.next × FitsDraw watch.old × FitsDraw watch.part
