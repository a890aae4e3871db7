-- Groups as JSON.
use Rattle.std.specs.Prelude.{[], ◌∷◌, codes, ⊤}
use Rattle.serde_json.specs.Data.{Data, string}
use Rattle.sc_base.specs.Definitions.{Each}
use Rattle.sc_words.specs.declared.commands.cores.Lock.{Lock}
use Rattle.sc_words.specs.declared.commands.cores.Lock.TheVariants as TheLock
use Rattle.sc_words.specs.declared.commands.cores.Core.{Core}
use Rattle.sc_words.specs.declared.commands.cores.Base.{Base}
use Rattle.sc_json_text.specs.rows.Shapes.{number_json, list_json, pair_json, option_json, fields, variant}
use Rattle.sc_json_text.specs.rows.Held.{FitsU16, FitsU32, OptionFits, PairFits, FitsArc, FitsMembers}
use Rattle.sc_json_text.specs.rows.Links.{link_json, FitsLink, route_json, FitsRoute}
use Rattle.sc_json_text.specs.rows.Bodies.{body_json, FitsBody, offer_json, FitsOffer, watch_json, FitsWatch}
use Rattle.sc_json_text.specs.rows.Votes.{heard_json, FitsHeard, past_json, FitsPast}
use Rattle.sc_json_text.specs.rows.Outcomes.{outcome_json, FitsOutcome}
use Rattle.sc_json_text.specs.rows.Names.{draw_json, FitsDraw}
use Rattle.sc_json_text.specs.rows.Sets.{arc_json, nodes_json, pairs_json, FitsPairs, clients_json, FitsClients}

-- The JSON of a group's lock, which says what the group is bound to.
unfoldable pub lock_json : Lock → Data
lock_json TheLock.Free = string (codes "Free")
lock_json (TheLock.Coordinating tx body order heard) = variant (codes "Coordinating") (fields ((codes "body", body_json body) ∷ (codes "heard", option_json heard_json heard) ∷ (codes "order", number_json order) ∷ (codes "tx", draw_json tx) ∷ []))
lock_json (TheLock.Promised tx offer) = variant (codes "Promised") (fields ((codes "offer", offer_json offer) ∷ (codes "tx", draw_json tx) ∷ []))
lock_json (TheLock.Watching tx watch) = variant (codes "Watching") (fields ((codes "tx", draw_json tx) ∷ (codes "watch", watch_json watch) ∷ []))

-- A lock that the program's type can hold: each of its parts is valid.
unfoldable pub FitsLock : Lock → Type 0
FitsLock TheLock.Free = ⊤
FitsLock (TheLock.Coordinating tx body order heard) = FitsBody body × OptionFits FitsHeard heard × FitsU32 order × FitsDraw tx
FitsLock (TheLock.Promised tx offer) = FitsOffer offer × FitsDraw tx
FitsLock (TheLock.Watching tx watch) = FitsDraw tx × FitsWatch watch

-- The JSON of a group without its pairs and its client table.
unfoldable pub core_json : Core → Data
core_json core = fields
    ((codes "arc", arc_json core.arc)
    ∷ (codes "begun", number_json core.begun)
    ∷ (codes "born", list_json draw_json core.born)
    ∷ (codes "decided", list_json (pair_json draw_json outcome_json) core.decided)
    ∷ (codes "first", number_json core.first)
    ∷ (codes "gone", option_json route_json core.gone)
    ∷ (codes "id", draw_json core.id)
    ∷ (codes "lock", lock_json core.lock)
    ∷ (codes "members", nodes_json core.members)
    ∷ (codes "pred", link_json core.pred)
    ∷ (codes "succ", link_json core.succ)
    ∷ (codes "voted", list_json (pair_json draw_json past_json) core.voted)
    ∷ [])

-- A group without pairs and client table that the program's type can hold: each of its parts is valid.
unfoldable pub FitsCore : Core → Type 0
FitsCore core = (FitsArc core.arc × FitsU32 core.begun × Each FitsDraw core.born × Each (PairFits FitsDraw FitsOutcome) core.decided × FitsU16 core.first × OptionFits FitsRoute core.gone)
    × (FitsDraw core.id × FitsLock core.lock × FitsMembers core.members × FitsLink core.pred × FitsLink core.succ × Each (PairFits FitsDraw FitsPast) core.voted)

-- The JSON of a whole group, with its pairs and its client table.
unfoldable pub base_json : Base → Data
base_json base = fields
    ((codes "clients", clients_json base.clients)
    ∷ (codes "core", core_json base.core)
    ∷ (codes "pairs", pairs_json base.pairs)
    ∷ [])

-- A whole group that the program's type can hold: each of its parts is valid.
unfoldable pub FitsBase : Base → Type 0
FitsBase base = FitsClients base.clients × FitsCore base.core × FitsPairs base.pairs
