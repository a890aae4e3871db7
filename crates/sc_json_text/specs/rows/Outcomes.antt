-- Outcomes of transactions as JSON.
use Rattle.std.specs.Prelude.{[], ◌∷◌, codes, ⊤}
use Rattle.serde_json.specs.Data.{Data, string}
use Rattle.sc_words.specs.declared.commands.votes.Gift.{Gift}
use Rattle.sc_words.specs.declared.commands.votes.Outcome.{Outcome}
use Rattle.sc_words.specs.declared.commands.votes.Outcome.TheVariants as TheOutcome
use Rattle.sc_json_text.specs.rows.Shapes.{number_json, option_json, fields, variant}
use Rattle.sc_json_text.specs.rows.Held.{FitsU16, FitsU32, OptionFits}
use Rattle.sc_json_text.specs.rows.Links.{route_json, FitsRoute}
use Rattle.sc_json_text.specs.rows.Sets.{pairs_json, FitsPairs, clients_json, FitsClients}

-- The JSON of what a moved boundary brings to the group that gains the arc: its pairs and the client table.
unfoldable pub gift_json : Gift → Data
gift_json gift = fields
    ((codes "clients", clients_json gift.clients)
    ∷ (codes "pairs", pairs_json gift.pairs)
    ∷ [])

-- What a moved boundary brings, as the program's type can hold it: each of its parts is valid.
unfoldable pub FitsGift : Gift → Type 0
FitsGift gift = FitsClients gift.clients × FitsPairs gift.pairs

-- The JSON of the outcome of a transaction.
unfoldable pub outcome_json : Outcome → Data
outcome_json TheOutcome.Abort = string (codes "Abort")
outcome_json (TheOutcome.Merged into) = variant (codes "Merged") (fields ((codes "into", route_json into) ∷ []))
outcome_json (TheOutcome.Moved at gift) = variant (codes "Moved") (fields ((codes "at", number_json at) ∷ (codes "gift", option_json gift_json gift) ∷ []))
outcome_json (TheOutcome.Migrated node) = variant (codes "Migrated") (fields ((codes "node", number_json node) ∷ []))
outcome_json TheOutcome.Divided = string (codes "Divided")

-- The outcome of a transaction, as the program's type can hold it: each of its parts is valid.
unfoldable pub FitsOutcome : Outcome → Type 0
FitsOutcome TheOutcome.Abort = ⊤
FitsOutcome (TheOutcome.Merged into) = FitsRoute into
FitsOutcome (TheOutcome.Moved at gift) = FitsU32 at × OptionFits FitsGift gift
FitsOutcome (TheOutcome.Migrated node) = FitsU16 node
FitsOutcome TheOutcome.Divided = ⊤
